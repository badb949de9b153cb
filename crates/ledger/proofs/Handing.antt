-- What next hands out in a run: what is due when it answers end, and so what came.
use Rattle.std.proofs.Common.{◌≡◌, ℕ, ◌/◌, ◌≤◌, List, length, take, Option, refl, subst, length-take, mul-le-mul_right, arith}
use Rattle.geometry.specs.Cells.{table_size, frame_size}
use Rattle.frame.specs.Frames.{Frame, Lawful}
use Rattle.table.specs.Tables.{Table}
use Rattle.ledger.specs.Calls.{Answer, at_end, History, calls, asked, handed_out}
use Rattle.ledger.specs.Ledgers.{Ledger}
use Rattle.ledger.specs.Found.{at_start, Due}
use Rattle.ledger.specs.Law.{AllFrom, HandsOutDue, Came, HandsOutWhatCame, LosesNothing}
use Rattle.ledger.proofs.Brought.{own_datagram}
use Rattle.ledger.proofs.Links.{WhenClosed, ClosedAgrees}
use Rattle.ledger.proofs.Linked.{linked}
use Rattle.ledger.proofs.ReadOuts.{NextTold, next_told}
use Rattle.ledger.proofs.HandsDue.{Knows, hands_due, hands_all}

module _ (m : ℕ) (codeword : List ℕ → Type 0) (few : m ≤ 64) (sizes : ℕ → Option ℕ) where
  -- what a call of next tells of the calls before it, with the ledger that they had and a lawful frame that all came from
  module _ (before : History) (k : ℕ) (answer : Answer) (told : NextTold m codeword sizes before k answer) (t : Table) (ledger : Ledger m codeword sizes (calls before) t) where
    link : WhenClosed m codeword sizes before told.cells told.marks told.burst
    link = linked m codeword few sizes before _ told.run

    pub ends : table_size t.rows / 20 ≤ asked k before → answer ≡ at_end
    ends many = told.ends t.rows (rw (link.rows t ledger) link.inside) many

    module _ (frame : Frame) (lawful : Lawful m codeword t.rows frame) (all : AllFrom m t.rows frame before) where
      own_lawful : Lawful m codeword told.burst.rows frame
      own_lawful = subst (λ R. Lawful m codeword R frame) (link.rows t ledger) lawful

      agrees : ClosedAgrees m codeword sizes frame before told.cells told.marks told.burst.limit
      agrees = link.agrees frame own_lawful (subst (λ R. AllFrom m R frame before) (link.rows t ledger) all)

      knows : Knows m codeword told.burst.rows frame told.cells told.marks told.burst.limit t
      knows = record {
        lawful = own_lawful;
        size = link.cells_size;
        inside = link.inside;
        beyond = agrees.beyond;
        known = link.known t ledger;
        bytes = agrees.bytes;
        starts = agrees.starts t ledger;
        begins = agrees.begins;
      }

      -- the limit lies inside the cells, so that is where those that are read end
      reaches : (place : ℕ) → length (take told.burst.limit told.cells) ≤ place → told.burst.limit ≤ place
      reaches place past =
          let inside : table_size told.burst.rows ≤ frame_size m told.burst.rows = mul-le-mul_right told.burst.rows (omega arith) in
          omega (arith, past, length-take told.burst.limit told.cells, link.cells_size, link.inside, inside)

      pub due : answer ≡ at_end → HandsOutDue frame t (handed_out k before)
      due is_end =
          let end = told.came_to_end is_end in
          hands_due m codeword told.burst.rows frame told.cells told.marks told.burst.limit t knows end.place (handed_out k before) end.way (reaches end.place end.limit)

      -- a datagram that came is one of the frame's, and due: its start and its bytes are in the ledger
      came_due : (address : ℕ) (datagram : List ℕ) → Came before address datagram → Due frame t address datagram
      came_due address datagram (section, (taken, carries)) =
          let has = agrees.stored t ledger section taken carries.is_datagram in
          record {
            sent = rw (← carries.address_is, ← carries.payload_is) (own_datagram m t.rows frame section few (all section taken) carries.is_datagram);
            found = at_start address (rw (← carries.address_is) has.start);
            complete = λ i below. rw (← carries.address_is) (has.bytes i (rw carries.payload_is below));
          }

      pub what_came : answer ≡ at_end → HandsOutWhatCame frame before (handed_out k before)
      what_came is_end = record {
        each = λ address datagram came. ((due is_end).exactly address datagram).1 (came_due address datagram came);
        all = λ all_came. hands_all m codeword t.rows frame t (handed_out k before) lawful (due is_end)
            (λ address datagram sent. came_due address datagram (all_came address datagram sent));
      }

pub loses_nothing : (m : ℕ) (codeword : List ℕ → Type 0) → m ≤ 64 → LosesNothing m codeword
loses_nothing m codeword few sizes h w k t frame run ledger lawful all =
    what_came m codeword few sizes h k at_end (next_told m codeword sizes run) t ledger frame lawful all refl
