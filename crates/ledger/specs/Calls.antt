-- The calls on a burst as an onlooker notes them: what each was given, and what it answered.
use Rattle.std.specs.Prelude.{ℕ, ◌+◌, Bool, true, false, ◌&&◌, ◌||◌, cond, List, [], ◌∷◌, ◌++◌, map, ◌==◌}
use Rattle.refusal.specs.declared.Refusal.{Refusal}
use Rattle.reading.specs.Reading.{Placed}

-- A call by its arguments. Of a buffer only the size is noted: what it holds is not for the ledger to see. The read-outs of a
-- closed burst are numbered from 0, in the order in which they were opened.
pub data Call : Type 0 where
  start : (code cells marks : ℕ) → Call
  take : (section : List ℕ) (arrival cells marks : ℕ) → Call
  close : (cells marks scratch names : ℕ) → Call
  «open» : (cells marks : ℕ) → Call
  next : (read_out : ℕ) → Call

-- What a call answered. A start, take or open that was not refused is done; a close that was not refused has closed the burst, and
-- gives the names of its rows; next hands out a datagram with its address, or is at the end.
pub data Answer : Type 0 where
  done : Answer
  closed : (names : List ℕ) → Answer
  handed : Placed → Answer
  at_end : Answer
  refused : Refusal → Answer

-- a call with its answer
pub record Event : Type 0 where
  pub call : Call
  pub answer : Answer

-- what happened, the latest first
abbrev pub History : Type 0
History = List Event

-- such an event
abbrev pub noted : Call → Answer → Event
noted call answer = record { call = call; answer = answer }

-- the calls alone
abbrev pub calls : History → List Call
calls h = map (λ e. e.call) h

-- of a start, take or open: it was not refused
abbrev pub is_done : Answer → Bool
is_done done = true
is_done (closed names) = false
is_done (handed datagram) = false
is_done at_end = false
is_done (refused e) = false

-- the call is start
abbrev pub is_start : Call → Bool
is_start (start code cells marks) = true
is_start (take section arrival cells marks) = false
is_start (close cells marks scratch names) = false
is_start («open» cells marks) = false
is_start (next read_out) = false

-- a start that was not refused
abbrev pub begins : Event → Bool
begins e = is_start e.call && is_done e.answer

-- there was such a start
abbrev pub begun : History → Bool
begun [] = false
begun (e ∷ h) = begins e || begun h

-- the section that a call was given
abbrev pub section_of : Call → List (List ℕ)
section_of (start code cells marks) = []
section_of (take section arrival cells marks) = section ∷ []
section_of (close cells marks scratch names) = []
section_of («open» cells marks) = []
section_of (next read_out) = []

-- the sections taken since the last start that was not refused, the latest first
abbrev pub taken : History → List (List ℕ)
taken [] = []
taken (e ∷ h) = cond (begins e) [] (cond (is_done e.answer) (section_of e.call) [] ++ taken h)

-- the call is next, on this read-out
abbrev pub asks : ℕ → Call → Bool
asks k (start code cells marks) = false
asks k (take section arrival cells marks) = false
asks k (close cells marks scratch names) = false
asks k («open» cells marks) = false
asks k (next read_out) = read_out == k

-- the datagram that a call handed out
abbrev pub datagram_of : Answer → List Placed
datagram_of done = []
datagram_of (closed names) = []
datagram_of (handed datagram) = datagram ∷ []
datagram_of at_end = []
datagram_of (refused e) = []

-- how often next was called on this read-out since the last start that was not refused
abbrev pub asked : ℕ → History → ℕ
asked k [] = 0
asked k (e ∷ h) = cond (begins e) 0 (cond (asks k e.call) 1 0 + asked k h)

-- what this read-out has handed out since then, with the addresses, in the order in which it did
abbrev pub handed_out : ℕ → History → List Placed
handed_out k [] = []
handed_out k (e ∷ h) = cond (begins e) [] (handed_out k h ++ cond (asks k e.call) (datagram_of e.answer) [])
