use Rattle.text.proofs.Putting.{put_on_then}
use Rattle.listing.specs.Listing.{total_line}
use Rattle.listing.proofs.put_total.Goals as goal

pub returns : goal.returns
unfolding total_line
returns c = put_on_then _ _ _ _ _ c.put_all.ensures c.put_number.ensures
