-- Attributes that declare a prefix. Assumes nothing.
use Prim.Native.Nat.{ℕ, suc, ◌+◌, ◌-◌, ◌*◌, ◌≤◌, ◌<◌}
use mathlib.Core.Path.{◌≡◌, refl, sym, ◌∙◌, ap}
use mathlib.Core.Bool.{Bool, true, false, ◌&&◌, ◌||◌}
use mathlib.Core.Option.{some}
use mathlib.Core.List.{List, [], ◌∷◌}
use native.Mathlib.Omega.{arith}
use lib.ListN.{length, get_or, get_elem?, take, drop}
use Rattle.sequences.specs.Lists.{same}
use Rattle.machine.specs.Machine.{name_text}
use Rattle.machine.specs.Tables.{name_rows_in}
use Rattle.machine.proofs.Tables.{name_row_at, every_at}
use Rattle.classes.specs.Search.{class_at}
use Rattle.classes.proofs.Classes.{class_empty, name_text_at}
use Rattle.meaning.specs.Meaning.{declares, xmlns}
use Rattle.marks.specs.Names.{class_in, uri_at, prefix_at, Named, declares_at, xmlns_colon}
use Rattle.token.specs.Tokens.{qname_width}

-- ---- attributes that declare a prefix

module _ {doc names qnames classes : List ℕ} {rows row : ℕ} (n : Named doc names qnames classes rows row) where
  empty_of : (t : List ℕ) (c : ℕ) → c ≡ class_in doc names rows t → c ≡ 0 → t ≡ []
  empty_of t c e z = (class_empty _ t).0 (sym e ∙ z)

  some_of : (t : List ℕ) (c : ℕ) → c ≡ class_in doc names rows t → (c ≡ 0 → ⊥) → t ≡ [] → ⊥
  some_of t c e z i = z (e ∙ (class_empty _ t).1 i)

  not_same : (t : List ℕ) → (t ≡ [] → ⊥) → same t [] ≡ false
  not_same [] h = absurd (h refl)
  not_same (x ∷ t) h = refl

  and_false : (t : Bool) → (t && false) ≡ false
  and_false true = refl
  and_false false = refl

  module _ (u : ℕ) (eu : u ≡ class_at classes (get_or qnames (qname_width * (row - 1)) 0)) where
    pub declares_uri : (u ≡ 0 → ⊥) → false ≡ declares_at doc names qnames rows row
    unfolding declares_at declares
    declares_uri h = rw (not_same _ (some_of _ u (eu ∙ n.uri_class) h))

    module _ (zu : u ≡ 0) (v : ℕ) (ev : v ≡ class_at classes (get_or qnames (qname_width * (row - 1) + 2) 0)) where
      pub declares_local : (v ≡ 0 → ⊥) → false ≡ declares_at doc names qnames rows row
      unfolding declares_at declares
      declares_local h = rw (not_same _ (some_of _ v (ev ∙ n.local_class) h)) (sym (and_false (same (uri_at doc names qnames rows row) [])))

      module _ (zv : v ≡ 0) (p : ℕ) (ep : p ≡ get_or qnames (qname_width * (row - 1) + 1) 0) where
        by_prefix : (same (prefix_at doc names qnames rows row) xmlns || same (take 12 (prefix_at doc names qnames rows row)) xmlns_colon) ≡ declares_at doc names qnames rows row
        unfolding declares_at declares
        by_prefix = rw (empty_of _ u (eu ∙ n.uri_class) zu, empty_of _ v (ev ∙ n.local_class) zv)

        pub declares_none : p ≡ 0 → false ≡ declares_at doc names qnames rows row
        unfolding name_text
        declares_none z =
            let e : get_or qnames (qname_width * (row - 1) + 1) 0 ≡ 0 = sym ep ∙ z in
            let f : prefix_at doc names qnames rows row ≡ [] = rw e in
            rw f at by_prefix

        module _ (hp : p ≡ 0 → ⊥) where
          row_here : (p - 1 < rows) × (get_elem? (name_rows_in rows names) (p - 1) ≡ some (record { place = get_or names (2 * (p - 1)) 0; units = get_or names (2 * (p - 1) + 1) 0 }))
          row_here = let l : p - 1 < rows = omega (arith, n.prefix_in, hp) in (l, name_row_at rows names (p - 1) l)

          pub prefix_there : (2 * (p - 1) + 1 < length names) × (get_or names (2 * (p - 1)) 0 + 2 * get_or names (2 * (p - 1) + 1) 0 ≤ length doc)
          prefix_there = (omega (arith, row_here.0, n.names_long), (every_at n.names_fit (p - 1) row_here.1).inside)

          pub declares_prefix : (place units : ℕ) → place ≡ get_or names (2 * (p - 1)) 0 → units ≡ get_or names (2 * (p - 1) + 1) 0 → (r : Bool)
              → r ≡ (same (take (place + 2 * units - place) (drop place doc)) xmlns || same (take 12 (take (place + 2 * units - place) (drop place doc))) xmlns_colon)
              → r ≡ declares_at doc names qnames rows row
          declares_prefix place units e1 e2 r e =
              let s : place + 2 * units - place ≡ 2 * units = omega arith in
              let i : get_or qnames (qname_width * (row - 1) + 1) 0 ≡ suc (p - 1) = sym ep ∙ (let q : p ≡ suc (p - 1) = omega (arith, hp) in q) in
              let t : prefix_at doc names qnames rows row ≡ take (place + 2 * units - place) (drop place doc) =
              ap (name_text doc (name_rows_in rows names)) i ∙ name_text_at doc (name_rows_in rows names) (p - 1) row_here.1 ∙ rw (s, e1, e2) in
              e ∙ rw t at by_prefix
