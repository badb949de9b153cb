-- How many rows a size code stands for, and which sizes the buffers of such a frame have.
use Rattle.std.specs.Prelude.{ℕ, ◌+◌, ◌*◌, ◌≤◌, not, cond, Option, Some, None, IfSome, is_some, ◌==◌, nat_le}
use Rattle.refusal.specs.declared.Refusal.TheVariants.{SizeCode, FrameBuffers}
use Rattle.refusal.specs.Rules.{Verdict, when, or_else}
use Rattle.geometry.specs.Cells.{frame_size}

-- a map from size codes to rows, nothing for a code that is not in use, has no rows but 1 to 1,024. All that is proved of frames
-- and tables holds for any such rows, and so for any such map.
abbrev pub AreSizes : (ℕ → Option ℕ) → Type 0
AreSizes sizes = (code : ℕ) → IfSome (sizes code) (λ R. (1 ≤ R) × (R ≤ 1024))

-- the sizes of the standard: codes 0, 1, 2 and 3 stand for 256, 512, 768 and 1,024 rows
abbrev pub four_sizes : ℕ → Option ℕ
four_sizes code = cond (nat_le code 3) (Some (256 * (code + 1))) None

-- 1: the size code is not in use
abbrev pub size_rule : (sizes : ℕ → Option ℕ) → (code : ℕ) → Verdict
size_rule sizes code = when (not (is_some (sizes code))) SizeCode

-- 2: a buffer of so many bytes has not one for each cell; and so of two buffers
abbrev pub buffer_rule : (m R size : ℕ) → Verdict
buffer_rule m R size = when (not (size == frame_size m R)) FrameBuffers

abbrev pub buffers_rule : (m R cells marks : ℕ) → Verdict
buffers_rule m R cells marks = or_else (buffer_rule m R cells) (buffer_rule m R marks)
