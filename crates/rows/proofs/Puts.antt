-- A row put behind the rows of its table. Assumes nothing.
use Prim.Native.Nat.{ℕ, suc, ◌+◌, ◌*◌, ◌≤◌}
use mathlib.Core.Path.{◌≡◌, sym, ◌∙◌, ap}
use mathlib.Core.List.{List, [], ◌∷◌, ◌++◌}
use native.Mathlib.Omega.{arith}
use lib.ListN.{length}
use lib.Seq.{sets}
use Rattle.sequences.specs.Lists.{overlay}
use Rattle.sequences.proofs.Overlay.{overlay_sets}
use Rattle.machine.specs.Machine.{NameRow, QnameRow, EventRow, name_row, qname_row, event, flat_names, flat_qnames, flat_events}
use Rattle.rows.specs.Tables.{put2, put3, put4}
use Rattle.machine.proofs.Rows.{length_names, length_qnames, length_events, flat_names_lem, flat_qnames_lem, flat_events_lem}
use Rattle.token.specs.Tokens.{name_width, qname_width, event_width}

-- stores at neighbouring places are one store of a run
pub run2 : (l : List ℕ) (row a b : ℕ) → put2 l row a b ≡ sets l (name_width * row) (a ∷ b ∷ [])
run2 l row a b = let e : name_width * row + 1 ≡ suc (name_width * row) = omega arith in rw e

pub run3 : (l : List ℕ) (row a b c : ℕ) → put3 l row a b c ≡ sets l (qname_width * row) (a ∷ b ∷ c ∷ [])
run3 l row a b c =
    let e : qname_width * row + 1 ≡ suc (qname_width * row) = omega arith in
    let f : qname_width * row + 2 ≡ suc (suc (qname_width * row)) = omega arith in
    rw (e, f)

pub run4 : (l : List ℕ) (row a b c d : ℕ) → put4 l row a b c d ≡ sets l (event_width * row) (a ∷ b ∷ c ∷ d ∷ [])
run4 l row a b c d =
    let e : event_width * row + 1 ≡ suc (event_width * row) = omega arith in
    let f : event_width * row + 2 ≡ suc (suc (event_width * row)) = omega arith in
    let g : event_width * row + 3 ≡ suc (suc (suc (event_width * row))) = omega arith in
    rw (e, f, g)

pub names_put : (rs : List NameRow) (l : List ℕ) (place units : ℕ) → name_width * length rs + name_width ≤ length l
    → put2 (overlay (flat_names rs) l) (length rs) place units ≡ overlay (flat_names (rs ++ (name_row place units ∷ []))) l
names_put rs l place units h =
    let n : name_width * length rs ≡ length (flat_names rs) = sym (length_names rs) in
    run2 (overlay (flat_names rs) l) (length rs) place units
    ∙ overlay_sets (place ∷ units ∷ []) (flat_names rs) l (name_width * length rs) n (omega arith)
    ∙ ap (λ (x : List ℕ). overlay x l) (sym (flat_names_lem rs (name_row place units ∷ [])))

pub qnames_put : (rs : List QnameRow) (l : List ℕ) (uri prefix local : ℕ) → qname_width * length rs + qname_width ≤ length l
    → put3 (overlay (flat_qnames rs) l) (length rs) uri prefix local ≡ overlay (flat_qnames (rs ++ (qname_row uri prefix local ∷ []))) l
qnames_put rs l uri prefix local h =
    let n : qname_width * length rs ≡ length (flat_qnames rs) = sym (length_qnames rs) in
    run3 (overlay (flat_qnames rs) l) (length rs) uri prefix local
    ∙ overlay_sets (uri ∷ prefix ∷ local ∷ []) (flat_qnames rs) l (qname_width * length rs) n (omega arith)
    ∙ ap (λ (x : List ℕ). overlay x l) (sym (flat_qnames_lem rs (qname_row uri prefix local ∷ [])))

pub events_put : (rs : List EventRow) (l : List ℕ) (token place a b : ℕ) → event_width * length rs + event_width ≤ length l
    → put4 (overlay (flat_events rs) l) (length rs) token place a b ≡ overlay (flat_events (rs ++ (event token place a b ∷ []))) l
events_put rs l token place a b h =
    let n : event_width * length rs ≡ length (flat_events rs) = sym (length_events rs) in
    run4 (overlay (flat_events rs) l) (length rs) token place a b
    ∙ overlay_sets (token ∷ place ∷ a ∷ b ∷ []) (flat_events rs) l (event_width * length rs) n (omega arith)
    ∙ ap (λ (x : List ℕ). overlay x l) (sym (flat_events_lem rs (event token place a b ∷ [])))
