-- The classes and texts of the rows of qnames that an event names. Assumes nothing.
use Prim.Native.Nat.{ℕ, zero, suc, ◌+◌, ◌-◌, ◌*◌, ◌≤◌, ◌<◌}
use mathlib.Core.Path.{◌≡◌, refl, sym, ◌∙◌, ap}
use mathlib.Core.List.{List}
use native.Mathlib.Omega.{arith}
use lib.ListN.{length, get_or}
use Rattle.sequences.specs.Arrays.{Front}
use Rattle.sequences.proofs.Overlay.{front_at}
use Rattle.machine.specs.Machine.{NameRow, qname_row, qnamed, name_text, qname_event}
use Rattle.machine.specs.Facts.{QnameFits}
use Rattle.machine.specs.Tables.{name_rows_in, qname_rows_in}
use Rattle.machine.proofs.Tables.{length_name_rows, qname_row_at, at_some, every_at}
use Rattle.form.specs.Canonical.{number_of}
use Rattle.classes.specs.Classes.{texts_of, name_classes}
use Rattle.classes.specs.Search.{class_at}
use Rattle.classes.proofs.Classes.{name_class_at, name_text_at, length_classes}
use Rattle.qname_classes.proofs.Qnames.{keyable}
use Rattle.meaning.specs.Codes.{both}
use Rattle.render.specs.Render.{Renderable}
use Rattle.marks.specs.Names.{class_in, uri_at, prefix_at, local_at, pair_of, Named}
use Rattle.token.specs.Tokens.{qname_width}

class_is : (doc : List ℕ) (N : List NameRow) (classes : List ℕ) → Front (name_classes doc N) classes → (x : ℕ) → x ≤ length N
    → class_at classes x ≡ number_of (texts_of doc N) (name_text doc N x)
unfolding name_text number_of
class_is doc N classes front zero h = refl
class_is doc N classes front (suc k) h =
    let s = at_some N k (omega arith) in
    let l : k < length (name_classes doc N) = omega (arith, length_classes doc N) in
    front_at (name_classes doc N) classes k l front ∙ name_class_at doc N k s.1 ∙ ap (number_of (texts_of doc N)) (sym (name_text_at doc N k s.1))

module _ {doc names qnames events classes : List ℕ} {rows qrows count : ℕ} (d : Renderable doc names qnames events classes rows qrows count) where
  pub named_row : (row : ℕ) → 1 ≤ row → row ≤ qrows → Named doc names qnames classes rows row
  named_row row l h =
      let n : length (name_rows_in rows names) ≡ rows = length_name_rows rows names in
      let f : QnameFits rows (qname_row (get_or qnames (qname_width * (row - 1)) 0) (get_or qnames (qname_width * (row - 1) + 1) 0) (get_or qnames (qname_width * (row - 1) + 2) 0)) =
      every_at d.filled.qnames_fit (row - 1) (qname_row_at qrows qnames (row - 1) (omega arith)) in
      let few : length (name_rows_in rows names) ≤ 1024 = omega (arith, d.filled.few) in
      let u : get_or qnames (qname_width * (row - 1)) 0 ≤ length (name_rows_in rows names) = omega (arith, f.uri_in) in
      let v : get_or qnames (qname_width * (row - 1) + 2) 0 ≤ length (name_rows_in rows names) = omega (arith, f.local_in_fact) in
      record {
        fits = record {
          from = l;
          few = omega (arith, d.filled.qfew);
          long = omega (arith, d.filled.qlong);
          uri_key = keyable doc (name_rows_in rows names) classes few d.classes_are _ u;
          local_key = keyable doc (name_rows_in rows names) classes few d.classes_are _ v;
        };
        uri_class = class_is doc (name_rows_in rows names) classes d.classes_are _ u;
        local_class = class_is doc (name_rows_in rows names) classes d.classes_are _ v;
        prefix_in = f.prefix_in;
        names_long = d.filled.long;
        names_fit = d.filled.names_fit;
      }

pub pair_both : {doc names qnames classes : List ℕ} {rows row : ℕ} → Named doc names qnames classes rows row
    → both (class_in doc names rows) (uri_at doc names qnames rows row) (local_at doc names qnames rows row) ≡ pair_of qnames classes row
unfolding pair_of
pair_both n = rw (← n.uri_class, ← n.local_class)

pub named_event : (doc names qnames : List ℕ) (rows qrows token row : ℕ) → 1 ≤ row → row ≤ qrows
    → qname_event doc (name_rows_in rows names) (qname_rows_in qrows qnames) token row
    ≡ qnamed token (uri_at doc names qnames rows row) (prefix_at doc names qnames rows row) (local_at doc names qnames rows row)
named_event doc names qnames rows qrows token zero l h = absurd (let q : ⊥ = omega arith in q)
named_event doc names qnames rows qrows token (suc k) l h =
    let e : suc k - 1 ≡ k = omega arith in
    rw (qname_row_at qrows qnames k (omega arith), e)
