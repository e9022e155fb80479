-- How many numbers rows have in their tables. Assumes nothing.
use Prim.Native.Nat.{ℕ, ◌*◌}
use mathlib.Core.Path.{◌≡◌, refl, ap}
use mathlib.Core.List.{List, [], ◌∷◌, ◌++◌}
use native.Mathlib.Omega.{arith}
use lib.ListN.{length}
use Rattle.machine.specs.Machine.{NameRow, QnameRow, EventRow, flat_names, flat_qnames, flat_events}
use Rattle.token.specs.Tokens.{name_width, qname_width, event_width}

pub length_names : (rs : List NameRow) → length (flat_names rs) ≡ name_width * length rs
length_names [] = refl
length_names (r ∷ rs) = let i : length (flat_names rs) ≡ name_width * length rs = length_names rs in omega arith

pub length_qnames : (rs : List QnameRow) → length (flat_qnames rs) ≡ qname_width * length rs
length_qnames [] = refl
length_qnames (r ∷ rs) = let i : length (flat_qnames rs) ≡ qname_width * length rs = length_qnames rs in omega arith

pub length_events : (rs : List EventRow) → length (flat_events rs) ≡ event_width * length rs
length_events [] = refl
length_events (r ∷ rs) = let i : length (flat_events rs) ≡ event_width * length rs = length_events rs in omega arith

pub flat_names_lem : (rs ss : List NameRow) → flat_names (rs ++ ss) ≡ flat_names rs ++ flat_names ss
flat_names_lem [] ss = refl
flat_names_lem (r ∷ rs) ss = ap (λ (l : List ℕ). r.place ∷ r.units ∷ l) (flat_names_lem rs ss)

pub flat_qnames_lem : (rs ss : List QnameRow) → flat_qnames (rs ++ ss) ≡ flat_qnames rs ++ flat_qnames ss
flat_qnames_lem [] ss = refl
flat_qnames_lem (r ∷ rs) ss = ap (λ (l : List ℕ). r.uri ∷ r.prefix ∷ r.local ∷ l) (flat_qnames_lem rs ss)

pub flat_events_lem : (rs ss : List EventRow) → flat_events (rs ++ ss) ≡ flat_events rs ++ flat_events ss
flat_events_lem [] ss = refl
flat_events_lem (r ∷ rs) ss = ap (λ (l : List ℕ). r.token ∷ r.place ∷ r.a ∷ r.b ∷ l) (flat_events_lem rs ss)
