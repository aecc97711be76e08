use Rattle.std.proofs.Common.{leb, rules, tests}
use Rattle.std.proofs.lemmas.Iterator.{YieldsList-from_slice}
use Rattle.std.proofs.lemmas.Iterator.Consumers.{YieldsList-from_copied}
use Rattle.std.proofs.lemmas.Iterator.Search.{find_from_yields_List}
use Rattle.stock.proofs.First.{searched, first_smallest}
use Rattle.stock.proofs.stock_for.Goals as goal

pub returns : goal.returns
returns c =
    let ss = c.args.stock.now in
    let l = c.args.length in
    let h = searched l ss in
    let found = find_from_yields_List (leb l) _ _ _ c.find.ensures.ran (YieldsList-from_copied (YieldsList-from_slice ss cc)) (λ x b q k. search (rules, tests)) in
    record { value = search rules; smallest = λ rising. let least = first_smallest ss l rising in search rules }
