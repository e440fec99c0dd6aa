-- What can be read: the first rule that is broken, or, where none is, a request or a completion with its own header words; by no more
-- than one rule; and the packet layer names the first rule broken exactly where there is one.
-- By the tests of form, one after the other, with what the tests before have told: a rule is at its rank alone, so what holds below a rank
-- and of its rule holds below the next. Assumes nothing.
use Prim.Native.Nat.{ℕ, ◌+◌, ◌≤◌, ◌<◌}
use mathlib.Core.Path.{◌≡◌, refl, sym, ap, ◌∙◌, subst}
use mathlib.Core.Bool.{Bool, true, false, true≢false}
use mathlib.Core.Logic.{◌⊎◌}
use native.Mathlib.Omega.{arith}
use Rattle.std.specs.Prelude.{Result, Ok, Err}
use Rattle.header.specs.Kind.{completion, completion_with_data, is_request, is_completion}
use Rattle.header.specs.Fields.{kind}
use Rattle.header.specs.declared.words.Header.{Header}
use Rattle.header.proofs.Laws.Lengths.{header_bounds}
use Rattle.ground.proofs.Laws.Pick.{either}
use Rattle.tlp.specs.Form.{too_short, not_carried, wrong_length, enables_broken, contiguity_broken, crosses_page, zero_high_word}
use Rattle.tlp.specs.Form.{request_form, form_of, rule_number, packet_number}
use Rattle.tlp.specs.Rules.{of_requests, breaks, rank, FirstBroken, LayerNamesFirst, WellFormedBreaksNone, ShortBreaksLength}
use Rattle.tlp.specs.declared.form.Rule.{Rule}
use Rattle.tlp.specs.declared.form.Rule.TheVariants.{TooShort, NotCarried, WrongLength, Enables, Contiguity, PageCrossing, ZeroHighWord}
use Rattle.tlp.specs.declared.form.Packet.{Packet}
use Rattle.tlp.specs.declared.form.Packet.TheVariants.{Request, Completion}

-- a rule of form has the number 4, or one of 31 to 36
pub form_number : (r : Rule) → (rule_number r ≡ 4) ⊎ ((31 ≤ rule_number r) × (rule_number r ≤ 36))
form_number r = grind arith

-- so no other number below 31 is a rule's
pub no_rule : (r : Rule) (n : ℕ) → n < 31 → (n ≡ 4 → ⊥) → rule_number r ≡ n → ⊥
no_rule r n l f e = grind (arith, form_number r)

-- two rules of one rank are the same
rank_determines : (q r : Rule) → rank q ≡ rank r → q ≡ r
rank_determines q r e = grind arith

-- ranks are below 7
pub rank_lt : (r : Rule) → rank r < 7
rank_lt r = grind arith

-- what a test says of the two kinds of completion it says of a completion's kind
pub of_completions : (test : ℕ → Bool) (v : Bool) → test completion ≡ v → test completion_with_data ≡ v → (k : ℕ) → is_completion k ≡ true → test k ≡ v
of_completions test v p q k e = grind arith

-- no kind is a request's and a completion's
pub two_kinds : (k : ℕ) → is_request k ≡ true → is_completion k ≡ true → ⊥
two_kinds k r c = grind arith

-- a carried kind that is no completion's is a request's
pub carried_request : (h : Header) → not_carried h ≡ false → is_completion (kind h) ≡ false → is_request (kind h) ≡ true
carried_request h c e = grind arith

module _ (n : ℕ) (h : Header) where
  -- no rule below this rank is broken
  abbrev pub KeptTo : ℕ → Type 0
  KeptTo i = (q : Rule) → rank q < i → breaks q n h ≡ false

  -- nor the rule of this rank: none below the next
  one_more : (r : Rule) → KeptTo (rank r) → breaks r n h ≡ false → KeptTo (1 + rank r)
  one_more r k e q l = grind (arith, rank_determines q r, k q)

  -- the first broken is one rule
  pub one_first : (q r : Rule) → FirstBroken n h q → FirstBroken n h r → q ≡ r
  one_first q r a b = grind (arith, rank_determines q r, a.earlier r, b.earlier q)

  -- of a completion, what is asked of requests is not broken
  not_asked : (test : Bool) → is_completion (kind h) ≡ true → of_requests h test ≡ false
  not_asked test e = grind (arith, two_kinds)

  -- of a request it is what its test says
  is_asked : (test : Bool) → not_carried h ≡ false → is_completion (kind h) ≡ false → of_requests h test ≡ test
  is_asked test c e = grind (arith, carried_request)

  -- what holds of the first rule broken, and of each packet that breaks none, holds of what is read
  pub each_form : (P : Result Packet Rule → Type 0) → ((r : Rule) → FirstBroken n h r → P (Err r))
      → (KeptTo 7 → is_request (kind h) ≡ true → P (Ok (Request h))) → (KeptTo 7 → is_completion (kind h) ≡ true → P (Ok (Completion h))) → P (form_of n h)
  unfolding form_of request_form
  each_form P broken request completion =
      let first : (r : Rule) → KeptTo (rank r) → breaks r n h ≡ true → P (Err r) = λ r k e. broken r (record { broken = e; earlier = k }) in
      let none : KeptTo 0 = λ q l. absurd (omega (arith, l)) in
      either P (too_short n) (first TooShort none)
      (λ a. let k1 = one_more TooShort none a in
      either P (not_carried h) (first NotCarried k1)
      (λ b. let k2 = one_more NotCarried k1 b in
      either P (wrong_length n h) (first WrongLength k2)
      (λ c. let k3 = one_more WrongLength k2 c in
      either P (is_completion (kind h))
      (λ e.
      let k4 = one_more Enables k3 (not_asked (enables_broken h) e) in
      let k5 = one_more Contiguity k4 (not_asked (contiguity_broken h) e) in
      let k6 = one_more PageCrossing k5 (not_asked (crosses_page h) e) in
      completion (one_more ZeroHighWord k6 (not_asked (zero_high_word h) e)) e)
      (λ e.
      either P (enables_broken h) (λ d. first Enables k3 (is_asked (enables_broken h) b e ∙ d))
      (λ d. let k4 = one_more Enables k3 (is_asked (enables_broken h) b e ∙ d) in
      either P (contiguity_broken h) (λ f. first Contiguity k4 (is_asked (contiguity_broken h) b e ∙ f))
      (λ f. let k5 = one_more Contiguity k4 (is_asked (contiguity_broken h) b e ∙ f) in
      either P (crosses_page h) (λ g. first PageCrossing k5 (is_asked (crosses_page h) b e ∙ g))
      (λ g. let k6 = one_more PageCrossing k5 (is_asked (crosses_page h) b e ∙ g) in
      either P (zero_high_word h) (λ z. first ZeroHighWord k6 (is_asked (zero_high_word h) b e ∙ z))
      (λ z. request (one_more ZeroHighWord k6 (is_asked (zero_high_word h) b e ∙ z)) (carried_request h b e)))))))))

  -- the same with what was read as an equation
  pub each_packet : (P : Result Packet Rule → Type 0) → ((r : Rule) → form_of n h ≡ Err r → P (Err r)) → (form_of n h ≡ Ok (Request h) → P (Ok (Request h)))
      → (form_of n h ≡ Ok (Completion h) → P (Ok (Completion h))) → P (form_of n h)
  each_packet P broken request completion =
      each_form (λ k. form_of n h ≡ k → P k) (λ r _ e. broken r e) (λ _ _ e. request e) (λ _ _ e. completion e) refl

  -- where a rule is broken, not all below 7 are kept
  broken_not_kept : (r : Rule) → breaks r n h ≡ true → KeptTo 7 → ⊥
  broken_not_kept r e k = grind (arith, rank_lt r)

-- the packet layer names the first rule broken
pub layer_names_first : LayerNamesFirst
layer_names_first n h r = (
  each_form n h (λ k. k ≡ Err r → FirstBroken n h r)
      (λ q f e. let same : q ≡ r = cc in subst (FirstBroken n h) same f)
      (λ _ _ e. (cc))
      (λ _ _ e. (cc)),
  λ f. each_form n h (λ k. k ≡ Err r)
      (λ q g. ap Err (one_first n h q r g f))
      (λ k _. absurd (broken_not_kept n h r f.broken k))
      (λ k _. absurd (broken_not_kept n h r f.broken k)),
)

-- a packet has the number 0 exactly where no rule is broken
pub well_formed_breaks_none : WellFormedBreaksNone
well_formed_breaks_none n h = (
  each_form n h (λ k. packet_number k ≡ 0 → (r : Rule) → breaks r n h ≡ false)
      (λ q _ e. absurd (no_rule q 0 (omega arith) (λ z. omega (arith, z)) e))
      (λ k _ _ r. k r (rank_lt r))
      (λ k _ _ r. k r (rank_lt r)),
  λ none. each_form n h (λ k. packet_number k ≡ 0) (λ q f. absurd (true≢false (sym f.broken ∙ none q))) (λ _ _. refl) (λ _ _. refl),
)

-- a header alone has 12 bytes
pub short_breaks_length : ShortBreaksLength
short_breaks_length n h e = grind (arith, header_bounds (kind h))
