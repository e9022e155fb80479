-- What each way out of reading a reference says; a reference lies inside the document. Assumes nothing.
use Prim.Native.Nat.{ℕ}
use mathlib.Core.Bool.{◌&&◌}
use mathlib.Core.List.{List}
use lib.Dec.{leb}
use lib.ListN.{length}
use borrow.Author.Tests.{leb-true}
use Rattle.sequences.proofs.Tests.{cond_if, and_left, and_right}
use Rattle.std.specs.Prelude.{Result, Ok, Err}
use Rattle.token.specs.declared.Refusal.{Refusal}
use Rattle.number.specs.Number.{number_at}
use Rattle.number.specs.Bounds.{Within}
use Rattle.number.specs.declared.Number.{Number}
use Rattle.number.proofs.Within.{number_within}
use Rattle.fields.specs.Fields.{name_judged, name_at, qname_judged, qname_at}
use Rattle.fields.specs.Bounds.{NameWithin, QnameWithin}

-- ---- inside the document

pub name_within : (known : ℕ) (doc : List ℕ) (at : ℕ) → NameWithin (length doc) at known (name_at known doc at)
unfolding name_at
name_within known doc at = go (number_at 5 doc at) (number_within 5 doc at)
  where
    go : (n : Result Number Refusal) → Within (length doc) at n → NameWithin (length doc) at known (name_judged known at n)
    go (Ok n) h =
        cond_if (NameWithin (length doc) at known) (leb n.value known) _ _ (λ t. (h.0, h.1, leb-true _ _ t)) (λ t. tt)
    go (Err r) h = tt

pub qname_within : (known : ℕ) (doc : List ℕ) (at : ℕ) → QnameWithin (length doc) at known (qname_at known doc at)
unfolding qname_at
qname_within known doc at = go (number_at 5 doc at) (number_within 5 doc at)
  where
    go : (n : Result Number Refusal) → Within (length doc) at n → QnameWithin (length doc) at known (qname_judged known at n)
    go (Ok n) h =
        cond_if (QnameWithin (length doc) at known) (leb 1 n.value && leb n.value known) _ _
        (λ t. (h.0, h.1, leb-true _ _ (and_left (leb 1 n.value) _ t), leb-true _ _ (and_right (leb 1 n.value) _ t))) (λ t. tt)
    go (Err r) h = tt
