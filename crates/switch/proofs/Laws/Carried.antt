-- The three steps of carrying a packet are its way: what packet and numbers say, one look at the windows, and what follows.
-- Each step is its definition. Assumes nothing.
use Rattle.std.specs.Prelude.{Option, Result}
use Prim.Native.Nat.{ℕ}
use mathlib.Core.Path.{◌≡◌, ap, ◌∙◌}
use Rattle.header.specs.declared.words.Header.{Header}
use Rattle.look.specs.declared.Question.{Question}
use Rattle.routing.specs.declared.rule.Plan.{Plan}
use Rattle.routing.specs.declared.rule.Way.{Way}
use Rattle.routing.specs.Call.{Tables, looked}
use Rattle.routing.specs.Rule.{planned, whose, question_of, finish_of, plan_way, carried_way}
use Rattle.routing.specs.declared.refusal.Refusal.{Refusal}
use Rattle.look.specs.declared.Translation.{Translation}

pub steps : (p : ℕ) (h : Header) (n : ℕ) (tables : Tables) (plan : Result Plan Refusal) (q : Question) (w : ℕ) (l : Option Translation) (y : Result Way Refusal)
    → plan ≡ planned n h p tables.numbers → q ≡ question_of plan p h → w ≡ whose plan p → l ≡ looked tables q w
    → y ≡ finish_of plan l p h tables.numbers → y ≡ carried_way p h n tables
steps p h n tables plan q w l y e-plan e-q e-w e-l e-y =
    let look = e-l ∙ ap (λ (k : Question). looked tables k w) e-q ∙ ap (looked tables (question_of plan p h)) e-w in
    e-y ∙ ap (λ (k : Option Translation). finish_of plan k p h tables.numbers) look ∙ ap (plan_way p h tables) e-plan
