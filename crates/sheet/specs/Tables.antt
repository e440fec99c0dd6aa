-- The sheet's tables.
use Rattle.std.specs.Prelude.{ℕ, List, [], ◌∷◌, ◌++◌, replicate}

-- "partition 1, slot 0: base 0x90000000, target 0x140000000, k 20, to 0. Slot 1: base 0xA0000000, target 0, k 12, to 3", all else 0
unfoldable pub windows : List ℕ
windows = replicate 48 0 ++ ((0x90000000 ∷ 0x140000000 ∷ 0x1014 ∷ 0xA0000000 ∷ 0 ∷ 0x130C ∷ []) ++ replicate 714 0)

-- "partition 1, entry slot 2: 0x0300"; "buses: 0 → 1, 1 → 2, 2 → 2; the rest inactive", which is the word 256
unfoldable pub numbers : List ℕ
numbers = replicate 6 0 ++ ((0x10300 ∷ []) ++ (replicate 57 0 ++ ((1 ∷ 2 ∷ 2 ∷ []) ++ replicate 13 256)))

-- "each case begins with empty logs"
unfoldable pub logs : List ℕ
logs = replicate 96 0
