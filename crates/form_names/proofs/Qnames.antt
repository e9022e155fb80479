-- What the walk writes before an event with a qname, and what it keeps after it, is what the form says. Assumes nothing.
use Prim.Native.Nat.{ℕ, suc, ◌+◌, ◌≤◌, ◌<◌}
use mathlib.Core.Path.{◌≡◌, ◌∙◌, ap}
use mathlib.Core.Bool.{Bool, true, false, cond}
use mathlib.Core.List.{List, [], ◌∷◌, ◌++◌}
use native.Mathlib.Omega.{arith}
use lib.ListN.{length}
use Rattle.sequences.specs.Lists.{same}
use Rattle.form.specs.Canonical.{Triple, same_triple, place, absent, qnumber_of, grown_if, defined, with_texts, qname_definition, with_qname}
use Rattle.form.proofs.Places.{tells_triple}
use Rattle.form_slots.specs.Slots.{is_new, slots_after, number_in, region, slot_count}
use Rattle.form_names.specs.Naming.{slots3, qname_before, names_after}
use Rattle.form_names.proofs.Marks.{Marks}
use Rattle.form_names.proofs.Names.{Classed, parts_of, Has3, new_any, after_any, number_any, grown_any, slots_long, slots3_are, texts_are, numbers_are}

-- `T` are the texts of the rows of names, `QT` the three texts of each row of qnames
module _ (doc names : List ℕ) (T : List (List ℕ)) (QT : List Triple) (k : Classed doc names T) (few : length QT ≤ 1024) {c : List (List ℕ)} {qs : List Triple}
    {slots qslots : List ℕ} {base : ℕ} (m : Marks same T c slots base) (mq : Marks same_triple QT qs qslots base) (long : length slots ≡ slot_count)
    (qlong : length qslots ≡ slot_count) (room : base + region ≤ slot_count) (q : Triple) (h : Has3 doc names T q) (row : place same_triple QT q < length QT) where
  qroom : base + region ≤ length qslots
  qroom = omega arith

  new_qname : is_new qslots base (qnumber_of QT q) ≡ absent same_triple qs q
  unfolding qnumber_of
  new_qname = new_any same_triple tells_triple QT few mq qroom q row

  pub qname_bytes_fact : qname_before doc names slots qslots base (parts_of doc names T q) (qnumber_of QT q) ≡ qname_definition (defined c qs) q
  unfolding qname_before qname_definition
  qname_bytes_fact = rw (new_qname, texts_are doc names T k m long room q h, numbers_are doc names T k m long room q h)

  pub names_after_fact : Marks same T (with_qname (defined c qs) q).names (names_after slots qslots base (parts_of doc names T q) (qnumber_of QT q)) base
  unfolding names_after with_qname
  names_after_fact = rw new_qname (go (absent same_triple qs q))
    where
      go : (t : Bool) → Marks same T (cond t (defined (with_texts c q) (qs ++ (q ∷ []))) (defined c qs)).names (cond t (slots3 slots base (parts_of doc names T q)) slots) base
      go true = slots3_are doc names T k m long room q h
      go false = m

  pub qnames_after : Marks same_triple QT (with_qname (defined c qs) q).qnames (slots_after qslots base (qnumber_of QT q)) base
  unfolding qnumber_of with_qname grown_if
  qnames_after = go (absent same_triple qs q) (after_any same_triple tells_triple QT few mq qroom q row)
    where
      go : (t : Bool) → Marks same_triple QT (cond t (qs ++ (q ∷ [])) qs) (slots_after qslots base (suc (place same_triple QT q))) base
          → Marks same_triple QT (cond t (defined (with_texts c q) (qs ++ (q ∷ []))) (defined c qs)).qnames (slots_after qslots base (suc (place same_triple QT q))) base
      go true x = x
      go false x = x

  pub qnumber_is : number_in (slots_after qslots base (qnumber_of QT q)) base (qnumber_of QT q) ≡ qnumber_of qs q
  unfolding qnumber_of
  qnumber_is =
      let g = grown_any same_triple tells_triple qs q in
      let l : base + region ≤ length (slots_after qslots base (suc (place same_triple QT q))) = rw (slots_long qslots base (suc (place same_triple QT q))) qroom in
      number_any same_triple tells_triple QT few (after_any same_triple tells_triple QT few mq qroom q row) l q row g.0 ∙ ap suc g.1
