-- R-4: "the packet layer shall name the first rule broken": what breaks each rule, and the order.
use Rattle.std.specs.Prelude.{ℕ, ◌<◌, Bool, true, false, ◌&&◌, ◌≡◌, List, [], ◌∷◌, Err}
use Rattle.header.specs.Kind.{is_request}
use Rattle.header.specs.Fields.{kind}
use Rattle.header.specs.declared.words.Header.{Header}
use Rattle.tlp.specs.Form.{too_short, not_carried, wrong_length, enables_broken, contiguity_broken, crosses_page, zero_high_word, form_of, packet_number}
use Rattle.tlp.specs.declared.form.Rule.{Rule}
use Rattle.tlp.specs.declared.form.Rule.TheVariants.{TooShort, NotCarried, WrongLength, Enables, Contiguity, PageCrossing, ZeroHighWord}

-- "Request form" is asked of requests alone
abbrev pub of_requests : Header → Bool → Bool
of_requests h test = is_request (kind h) && test

-- whether a packet of n bytes with these header words breaks a rule, whatever else it breaks
abbrev pub breaks : Rule → ℕ → Header → Bool
breaks TooShort n h = too_short n
breaks NotCarried n h = not_carried h
breaks WrongLength n h = wrong_length n h
breaks Enables n h = of_requests h (enables_broken h)
breaks Contiguity n h = of_requests h (contiguity_broken h)
breaks PageCrossing n h = of_requests h (crosses_page h)
breaks ZeroHighWord n h = of_requests h (zero_high_word h)

-- the order: "too short, wrong total length, enables, contiguity, 4 KiB crossing, .. zero high word", the first "before 4 and the others
-- after it"
abbrev pub rank : Rule → ℕ
rank TooShort = 0
rank NotCarried = 1
rank WrongLength = 2
rank Enables = 3
rank Contiguity = 4
rank PageCrossing = 5
rank ZeroHighWord = 6

-- all rules, by their ranks
abbrev pub rules : List Rule
rules = TooShort ∷ NotCarried ∷ WrongLength ∷ Enables ∷ Contiguity ∷ PageCrossing ∷ ZeroHighWord ∷ []

-- "the first rule broken": it is broken, and none before it is
pub record FirstBroken (n : ℕ) (h : Header) (r : Rule) : Type 0 where
  pub broken : breaks r n h ≡ true
  pub earlier : (q : Rule) → rank q < rank r → breaks q n h ≡ false

-- the packet layer names a rule exactly where it is the first broken
abbrev pub LayerNamesFirst : Type 0
LayerNamesFirst = (n : ℕ) (h : Header) (r : Rule) → (form_of n h ≡ Err r → FirstBroken n h r) × (FirstBroken n h r → form_of n h ≡ Err r)

-- "in demand 3's well-formed too": the number 0 is given exactly where no rule is broken
abbrev pub WellFormedBreaksNone : Type 0
WellFormedBreaksNone =
    (n : ℕ) (h : Header)
    → (packet_number (form_of n h) ≡ 0 → (r : Rule) → breaks r n h ≡ false) × (((r : Rule) → breaks r n h ≡ false) → packet_number (form_of n h) ≡ 0)

-- who breaks 31 breaks 32 too
abbrev pub ShortBreaksLength : Type 0
ShortBreaksLength = (n : ℕ) (h : Header) → breaks TooShort n h ≡ true → breaks WrongLength n h ≡ true
