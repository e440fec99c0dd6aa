-- R-4's rules on packets that partition 1 sends: all the rules that each breaks, and the number that it gets, the first of them.
use Rattle.std.specs.Prelude.{ℕ, List, [], ◌∷◌, length, take}
use Rattle.ground.specs.Pick.{pick}
use Rattle.header.specs.Words.{header_of}
use Rattle.tlp.specs.Form.{rule_number}
use Rattle.tlp.specs.declared.form.Rule.{Rule}
use Rattle.tlp.specs.Rules.{breaks}
use Rattle.sheet.specs.Cases.{wire, case_e, case_k, case_n}

-- of these rules the numbers of those that a packet breaks
abbrev pub broken_of : List Rule → List ℕ → List ℕ
broken_of [] s = []
broken_of (r ∷ rest) s = pick (breaks r (length s) (header_of s)) (rule_number r ∷ broken_of rest s) (broken_of rest s)

-- a packet, the numbers of all rules that it breaks, and the number that it gets
pub record Faulty : Type 0 where
  pub packet : List ℕ
  pub breaks_all : List ℕ
  pub gets : ℕ

abbrev pub faulty : List ℕ → List ℕ → ℕ → Faulty
faulty packet all n = record { packet = packet; breaks_all = all; gets = n }

-- each rule by itself; who breaks 31 breaks 32 as well
abbrev pub alone : List Faulty
alone =
    faulty case_k.packet (31 ∷ 32 ∷ []) 31
    ∷ faulty (wire (0x01000001 ∷ 0x0300050F ∷ 0x90000010 ∷ [])) (4 ∷ []) 4
    ∷ faulty (wire (0x00000001 ∷ 0x0300050F ∷ 0x90000010 ∷ 0 ∷ [])) (32 ∷ []) 32
    ∷ faulty (wire (0x00000001 ∷ 0x0300051F ∷ 0x90000010 ∷ [])) (33 ∷ []) 33
    ∷ faulty (wire (0x00000003 ∷ 0x030005F7 ∷ 0x90000018 ∷ [])) (34 ∷ []) 34
    ∷ faulty case_e.packet (35 ∷ []) 35
    ∷ faulty case_n.packet (36 ∷ []) 36
    ∷ []

-- two neighbours in the order; who breaks 31 and 4 breaks 32 as well. 4 is broken by the kind, and then by AT
abbrev pub neighbours : List Faulty
neighbours =
    faulty (take 11 (wire (0x01000001 ∷ 0x0300050F ∷ 0x90000010 ∷ []))) (31 ∷ 4 ∷ 32 ∷ []) 31
    ∷ faulty (wire (0x01000001 ∷ 0x0300050F ∷ 0x90000010 ∷ 0 ∷ [])) (4 ∷ 32 ∷ []) 4
    ∷ faulty (wire (0x00000401 ∷ 0x0300050F ∷ 0x90000010 ∷ 0 ∷ [])) (4 ∷ 32 ∷ []) 4
    ∷ faulty (wire (0x00000001 ∷ 0x0300051F ∷ 0x90000010 ∷ 0 ∷ [])) (32 ∷ 33 ∷ []) 32
    ∷ faulty (wire (0x00000003 ∷ 0x030005F0 ∷ 0x90000018 ∷ [])) (33 ∷ 34 ∷ []) 33
    ∷ faulty (wire (0x00000002 ∷ 0x030005F7 ∷ 0x900FFFFC ∷ [])) (34 ∷ 35 ∷ []) 34
    ∷ faulty (wire (0x20000002 ∷ 0x030005FF ∷ 0x00000000 ∷ 0x900FFFFC ∷ [])) (35 ∷ 36 ∷ []) 35
    ∷ []

-- all but 31 and 4, and all but 31
abbrev pub together : List Faulty
together =
    faulty (wire (0x20000003 ∷ 0x03000500 ∷ 0x00000000 ∷ 0x900FFFFC ∷ 0 ∷ [])) (32 ∷ 33 ∷ 34 ∷ 35 ∷ 36 ∷ []) 32
    ∷ faulty (wire (0x20008003 ∷ 0x03000500 ∷ 0x00000000 ∷ 0x900FFFFC ∷ 0 ∷ [])) (4 ∷ 32 ∷ 33 ∷ 34 ∷ 35 ∷ 36 ∷ []) 4
    ∷ []
