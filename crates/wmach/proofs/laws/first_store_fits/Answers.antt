use Rattle.wmach.proofs.FirstStore.{first_store_fits_is}
use Rattle.wmach.proofs.laws.first_store_fits.Goals as goal

pub returns : goal.returns
returns c = first_store_fits_is
