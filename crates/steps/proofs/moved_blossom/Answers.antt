use Rattle.steps.proofs.Offers.{inner_offers_stay, outer_offers_move}
use Rattle.steps.proofs.moved_blossom.Goals as goal

pub returns : goal.returns
returns c = record { value = c.blossom_price.ensures; inner = inner_offers_stay; outer = outer_offers_move }
