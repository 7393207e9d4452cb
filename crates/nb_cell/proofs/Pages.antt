-- The pages of a file after one of them was put.
use Rattle.std.proofs.Common.{◌≡◌, ℕ, ◌+◌, ◌<◌, List, [], ◌∷◌, length, arith}
use Rattle.std.specs.Prelude.{◌≢◌}
use Rattle.nb_host.specs.Image.{overwritten}
use Rattle.nb_host.specs.Page.{page_of, page_start}
use Rattle.nb_host.specs.declared.page_name.TheConstants.{PAGE_SIZE}
use Rattle.nb_host.proofs.Callers.{length-overwritten, page_written, page_kept}

-- page p of a file of so many pages is these bytes now, and every other is as it was
pub record HasPut (old new : List ℕ) (pages p : ℕ) (bytes : List ℕ) : Type 0 where
  pub here : page_of new p ≡ bytes
  pub others : (r : ℕ) → r < pages → r ≢ p → page_of new r ≡ page_of old r
  pub within : p < pages → length new ≡ length old
  pub behind : p ≡ pages → length new ≡ page_start (pages + 1)

pub page_put : (pages p : ℕ) (bytes file : List ℕ) → length file ≡ page_start pages → length bytes ≡ PAGE_SIZE
    → HasPut file (overwritten (page_start p) bytes file) pages p bytes
page_put pages p [] file whole full = absurd (omega arith)
page_put pages p (b ∷ bytes) file whole full =
    let long = length-overwritten (page_start p) b bytes file in
    record {
      here = page_written p (b ∷ bytes) file full;
      others = λ r below apart. page_kept p r (b ∷ bytes) file full (omega arith) apart;
      within = λ below. omega (arith, long, full);
      behind = λ end. omega (arith, long, full);
    }
