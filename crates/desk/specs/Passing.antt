-- A packet that was read, passed over the exam sheet.
use Rattle.std.specs.Prelude.{ℕ, ◌≡◌, List, ◌⊎◌, take}
use Rattle.switch.specs.After.{out_of}
use Rattle.sheet.specs.Cases.{over_sheet}

-- Out, when a packet from p was to be read into a buffer: as it was, where reading failed; else what passing the first n bytes of the
-- buffer over the sheet leaves. Which bytes came, and so n, no definition can say
abbrev pub OutOfInput : ℕ → List ℕ → List ℕ → List ℕ → Type 0
OutOfInput p buffer before after = (after ≡ before) ⊎ ((n : ℕ) × (after ≡ out_of (over_sheet p (take n buffer) before)))
