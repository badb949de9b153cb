-- What is proved of lawful frames.
use Rattle.std.specs.Prelude.{◌≡◌, ℕ, ◌≤◌, List}
use Rattle.frame.specs.Frames.{Frame, Fit, Lawful}

-- for datagrams that fit there is just one lawful frame, whatever the number of rows
abbrev pub OneFrame : (m : ℕ) → (codeword : List ℕ → Type 0) → Type 0
OneFrame m codeword =
    (R : ℕ) → 1 ≤ R → (datagrams : List (List ℕ)) → Fit R datagrams
    → (f : Frame) × ((f.datagrams ≡ datagrams) × Lawful m codeword R f
    × ((g : Frame) → g.datagrams ≡ datagrams → Lawful m codeword R g → g ≡ f))
