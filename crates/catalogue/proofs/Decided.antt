-- What a commit's answer says of the decision. Assumes nothing.
use Rattle.std.proofs.Common.{◌≡◌, Ok, Err, Result, refl}
use Rattle.transactions.specs.declared.refusal.Refusal.{Refusal}
use Rattle.transactions.specs.declared.refusal.Refusal.TheVariants as refusals
use Rattle.books.specs.declared.slip.Slip.{Slip}
use Rattle.books.specs.States.{handed, not_committed}
use Rattle.catalogue.specs.Kept.{refused_by, decision}

same_refusal : (s : Slip) (f : Refusal) → refused_by (not_committed s f) ≡ f
same_refusal s refusals.NoCards = refl
same_refusal s refusals.Narrow = refl
same_refusal s refusals.NotFresh = refl
same_refusal s refusals.ShortBooks = refl
same_refusal s refusals.NotOpen = refl
same_refusal s refusals.NoCard = refl
same_refusal s refusals.AllOpen = refl
same_refusal s refusals.NumbersOut = refl
same_refusal s refusals.Unread = refl
same_refusal s refusals.DraftsOut = refl
same_refusal s refusals.Conflict = refl
same_refusal s refusals.NoPlace = refl
same_refusal s refusals.JournalFull = refl
same_refusal s refusals.OtherShelf = refl

pub decided : (s : Slip) (r : Result (Unit {0}) Refusal) → decision (handed s r) ≡ r
decided s (Ok u) = refl
decided s (Err f) = λ i. Err (same_refusal s f i)
