-- By the chain over the four slots. Assumes nothing.
use Rattle.std.proofs.Common.{rules, refl, ap, ◌≡◌, ◌∙◌}
use borrow.Author.Tests.{tests}
use Rattle.std.specs.Option.{option_map}
use Rattle.std.proofs.lemmas.Iterator.{YieldsList-from_range}
use Rattle.std.proofs.lemmas.Iterator.Search.{find_from_yields_List}
use Rattle.ground.proofs.Laws.Chain.{find_first}
use Rattle.numbers.specs.Entries.{entry_index, slot_holds}
use Rattle.numbers.proofs.entries.Partition.find.Goals as goal

pub returns : goal.returns
returns c =
    let a = c.args in
    let index = entry_index a.self.p in
    let test = slot_holds a.self.numbers.now a.self.p a.id in
    let e = find_from_yields_List test _ _ c.find.result c.find.ensures.ran (YieldsList-from_range 0 4 4 refl refl) (λ x b q k. search (rules, tests)) in
    let m : c.map.result ≡ option_map index (option_map (λ x. x) c.find.result) = search rules in
    m ∙ ap (option_map index) e ∙ find_first index test 0 4 4 refl
