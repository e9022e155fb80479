-- What the grammar derives, reading walks: by induction over the derivation. Assumes nothing.
use Prim.Native.Nat.{ℕ, ◌+◌, ◌<◌}
use mathlib.Core.Path.{◌≡◌, refl}
use mathlib.Core.Bool.{Bool, true, false, ◌||◌}
use mathlib.Core.List.{List, ◌∷◌}
use Rattle.token.specs.Tokens.{class_of}
use Rattle.token.specs.declared.Class.TheVariants as class
use Rattle.modes.specs.Modes.{content, in_attributes, in_declaration, is, after_metadata, after_misc, after_value}
use Rattle.scan.specs.Steps.{class_step}
use Rattle.modes.specs.declared.Mode.{Mode}
use Rattle.modes.specs.declared.Mode.TheVariants as mode
use Rattle.scan.specs.declared.Room.{Room}
use Rattle.machine.specs.Machine.{Scope, scope}
use Rattle.machine.proofs.Outside.{misc_content}
use Rattle.grammar.specs.Grammar.{Point, past_qname, past_end, past_header, past_nest, past_end_nest, Byte, Star, nil, cons, Optional, omitted, present, Depth, flat, both, in_element, in_document, QnameReference, TextToken, HeaderBytes, XmlDecl, xmldecl, DocTypeDecl, doctypedecl, Metadata, Comment, comment, Misc, misc_comment, misc_pi, misc_metadata, CdSect, cdsect, Part, part_metadata, part_value, Attribute, attribute, Attributes, attributes, Typed, typed, Document, document, done, then, an_element, a_cdsect, a_pi, a_comment, an_atomicvalue, a_metadata, a_nestedbinaryxml, element, nestedbinaryxml}
use Rattle.grammar.proofs.Rest.{clash}
use Rattle.grammar.proofs.Steps as steps
use Rattle.grammar.proofs.Steps.{state_of, Reach, stay, ◌⨾◌}

-- ---- modes, one by one

-- no token but content stands in a declaration
content_not : (m : Mode) → content m ≡ true → in_declaration m ≡ false
content_not mode.Content c = refl
content_not mode.Tag c = refl
content_not mode.First c = refl
content_not mode.Prolog c = refl
content_not mode.AfterDocType c = refl
content_not mode.AfterSystem c = refl
content_not mode.AfterPublic c = refl
content_not mode.Attributes c = clash (cc)
content_not mode.Cdata c = clash (cc)
content_not mode.AfterXmlDecl c = clash (cc)
content_not mode.AfterEncoding c = clash (cc)

value_content : (m : Mode) → content m ≡ true → content (after_value m) ≡ true
value_content mode.Content c = refl
value_content mode.Tag c = refl
value_content mode.First c = refl
value_content mode.Prolog c = refl
value_content mode.AfterDocType c = refl
value_content mode.AfterSystem c = refl
value_content mode.AfterPublic c = refl
value_content mode.Attributes c = clash (cc)
value_content mode.Cdata c = clash (cc)
value_content mode.AfterXmlDecl c = clash (cc)
value_content mode.AfterEncoding c = clash (cc)

metadata_content : (m : Mode) → content m ≡ true → content (after_metadata m) ≡ true
metadata_content mode.Content c = refl
metadata_content mode.Tag c = refl
metadata_content mode.First c = refl
metadata_content mode.Prolog c = refl
metadata_content mode.AfterDocType c = refl
metadata_content mode.AfterSystem c = refl
metadata_content mode.AfterPublic c = refl
metadata_content mode.Attributes c = clash (cc)
metadata_content mode.Cdata c = clash (cc)
metadata_content mode.AfterXmlDecl c = clash (cc)
metadata_content mode.AfterEncoding c = clash (cc)

-- before DOCTYPEDECL
abbrev early : Mode → Bool
early m = is m mode.First || is m mode.Prolog

early_content : (m : Mode) → early m ≡ true → content m ≡ true
early_content mode.Content c = clash (cc)
early_content mode.Tag c = clash (cc)
early_content mode.First c = refl
early_content mode.Prolog c = refl
early_content mode.AfterDocType c = clash (cc)
early_content mode.AfterSystem c = clash (cc)
early_content mode.AfterPublic c = clash (cc)
early_content mode.Attributes c = clash (cc)
early_content mode.Cdata c = clash (cc)
early_content mode.AfterXmlDecl c = clash (cc)
early_content mode.AfterEncoding c = clash (cc)

misc_early : (m : Mode) → early m ≡ true → early (after_misc m) ≡ true
misc_early mode.Content c = clash (cc)
misc_early mode.Tag c = clash (cc)
misc_early mode.First c = refl
misc_early mode.Prolog c = refl
misc_early mode.AfterDocType c = clash (cc)
misc_early mode.AfterSystem c = clash (cc)
misc_early mode.AfterPublic c = clash (cc)
misc_early mode.Attributes c = clash (cc)
misc_early mode.Cdata c = clash (cc)
misc_early mode.AfterXmlDecl c = clash (cc)
misc_early mode.AfterEncoding c = clash (cc)

metadata_early : (m : Mode) → early m ≡ true → early (after_metadata m) ≡ true
metadata_early mode.Content c = clash (cc)
metadata_early mode.Tag c = clash (cc)
metadata_early mode.First c = refl
metadata_early mode.Prolog c = refl
metadata_early mode.AfterDocType c = clash (cc)
metadata_early mode.AfterSystem c = clash (cc)
metadata_early mode.AfterPublic c = clash (cc)
metadata_early mode.Attributes c = clash (cc)
metadata_early mode.Cdata c = clash (cc)
metadata_early mode.AfterXmlDecl c = clash (cc)
metadata_early mode.AfterEncoding c = clash (cc)

or_left : (a b : Bool) → a ≡ true → (a || b) ≡ true
or_left true b e = refl
or_left false b e = clash (cc)

-- so deep a part fits where `e` elements of this document are open, inside of these documents
module _ (opened : ℕ → List Scope → ℕ) (nested : List Scope → ℕ) (Fit : Depth → ℕ → List Scope → Type 0)
    (fit-left : (d n : Depth) (e : ℕ) (os : List Scope) → Fit (both d n) e os → Fit d e os)
    (fit-right : (d n : Depth) (e : ℕ) (os : List Scope) → Fit (both d n) e os → Fit n e os)
    (fit-element : (d : Depth) (e : ℕ) (os : List Scope) → Fit (in_element d) e os → (opened e os < 64) × Fit d (e + 1) os)
    (fit-document : (d : Depth) (o : Scope) (os : List Scope) → Fit (in_document d) o.elements os → (nested os < 8) × Fit d 0 (o ∷ os))
    (nested-some : (o : Scope) (os : List Scope) → 0 < nested (o ∷ os)) (doc : List ℕ) (room : Room) where
  -- a walk between two points that leaves open what is open, to a mode that passes a test
  pub record Ends (test : Mode → Bool) (e : ℕ) (os : List Scope) (s : Point) (m : Mode) (t : Point) : Type 0 where
    pub last : Mode
    pub good : test last ≡ true
    pub reach : Reach opened nested doc room (state_of s m e os) (state_of t last e os)

  module _ (e : ℕ) (os : List Scope) where
    here : (test : Mode → Bool) (s : Point) (m : Mode) → test m ≡ true → Ends test e os s m s
    here test s m c = record { last = m; good = c; reach = stay opened nested doc room }

    star : (test : Mode → Bool) {R : Point → Point → Type 0} → ((s t : Point) (m : Mode) → test m ≡ true → R s t → Ends test e os s m t)
        → {s t : Point} (m : Mode) → test m ≡ true → Star R s t → Ends test e os s m t
    star test f {s = s} m c nil = here test s m c
    star test f m c (cons x y) =
        let a = f _ _ m c x in
        let b = star test f a.last a.good y in
        record { last = b.last; good = b.good; reach = ◌⨾◌ opened nested doc room a.reach b.reach }

    -- ---- comments, PIs, metadata
    commented : (m : Mode) {s t : Point} → content m ≡ true → Comment doc s t → Reach opened nested doc room (state_of s m e os) (state_of t (after_misc m) e os)
    unfolding class_of class_step
    commented m c (comment x) = steps.texted opened nested doc room e os 0xF3 class.Comment m (after_misc m) (content_not m c) refl (λ s. c) (λ s. refl) x

    misc_content_walk : {s t : Point} (m : Mode) → content m ≡ true → Misc doc s t → Ends content e os s m t
    misc_content_walk m c (misc_comment x) = record { last = after_misc m; good = misc_content m; reach = commented m c x }
    misc_content_walk m c (misc_pi x) = record { last = after_misc m; good = misc_content m; reach = steps.instruction opened nested doc room e os m (content_not m c) c x }
    misc_content_walk m c (misc_metadata x) =
        record { last = after_metadata m; good = metadata_content m c; reach = steps.metadata opened nested doc room e os m (content_not m c) (or_left _ _ c) x }

    misc_early_walk : {s t : Point} (m : Mode) → early m ≡ true → Misc doc s t → Ends early e os s m t
    misc_early_walk m h (misc_comment x) = record { last = after_misc m; good = misc_early m h; reach = commented m (early_content m h) x }
    misc_early_walk m h (misc_pi x) =
        let c = early_content m h in
        record { last = after_misc m; good = misc_early m h; reach = steps.instruction opened nested doc room e os m (content_not m c) c x }
    misc_early_walk m h (misc_metadata x) =
        let c = early_content m h in
        record { last = after_metadata m; good = metadata_early m h; reach = steps.metadata opened nested doc room e os m (content_not m c) (or_left _ _ c) x }

    -- ---- CDATA
    further : {s t : Point} → Star (TextToken doc 0xF2) s t → Reach opened nested doc room (state_of s mode.Cdata e os) (state_of t mode.Cdata e os)
    unfolding class_of class_step
    further nil = stay opened nested doc room
    further (cons x y) = ◌⨾◌ opened nested doc room (steps.texted opened nested doc room e os 0xF2 class.Cdata mode.Cdata mode.Cdata refl refl (λ s. refl) (λ s. refl) x) (further y)

    section : (m : Mode) {s t : Point} → content m ≡ true → CdSect doc s t → Reach opened nested doc room (state_of s m e os) (state_of t mode.Content e os)
    unfolding class_of class_step
    section m c (cdsect {u = u} x y b) =
        ◌⨾◌ opened nested doc room (steps.texted opened nested doc room e os 0xF2 class.Cdata m mode.Cdata (content_not m c) refl (λ s. or_left _ _ c) (λ s. refl) x)
        (◌⨾◌ opened nested doc room (further y) (steps.cdata_end opened nested doc room e os u b))

    -- ---- attributes
    parts : {s t : Point} → Star (Part doc) s t → Reach opened nested doc room (state_of s mode.Attributes e os) (state_of t mode.Attributes e os)
    parts nil = stay opened nested doc room
    parts (cons (part_metadata x) y) = ◌⨾◌ opened nested doc room (steps.metadata opened nested doc room e os mode.Attributes refl refl x) (parts y)
    parts (cons (part_value x) y) = ◌⨾◌ opened nested doc room (steps.value opened nested doc room e os mode.Attributes refl refl x) (parts y)

    metas : (m : Mode) {s t : Point} → in_declaration m ≡ false → (content m || in_attributes m) ≡ true → after_metadata m ≡ m → Star (Metadata doc) s t
        → Reach opened nested doc room (state_of s m e os) (state_of t m e os)
    metas m d c z nil = stay opened nested doc room
    metas m d c z (cons x y) = ◌⨾◌ opened nested doc room (rw z at (steps.metadata opened nested doc room e os m d c x)) (metas m d c z y)

    one_attribute : (m : Mode) {s t : Point} → in_declaration m ≡ false → (content m || in_attributes m) ≡ true → after_metadata m ≡ m → (is m mode.Tag || in_attributes m) ≡ true
        → Attribute doc s t → Reach opened nested doc room (state_of s m e os) (state_of t mode.Attributes e os)
    one_attribute m d c z a (attribute {t = t} w b n p) =
        ◌⨾◌ opened nested doc room (metas m d c z w) (◌⨾◌ opened nested doc room (steps.attribute opened nested doc room e os m t d a b n) (parts p))

    more : {s t : Point} → Star (Attribute doc) s t → Reach opened nested doc room (state_of s mode.Attributes e os) (state_of t mode.Attributes e os)
    more nil = stay opened nested doc room
    more (cons x y) = ◌⨾◌ opened nested doc room (one_attribute mode.Attributes refl refl refl refl x) (more y)

    tag : {s t : Point} → Optional (Attributes doc) s t → Ends content e os s mode.Tag t
    tag {s = s} omitted = here content s mode.Tag refl
    tag (present (attributes {u = u} x y b)) =
        record {
          last = mode.Content;
          good = refl;
          reach = ◌⨾◌ opened nested doc room (one_attribute mode.Tag refl refl refl refl x) (◌⨾◌ opened nested doc room (more y) (steps.end_attributes opened nested doc room e os u b));
        }

    -- ---- declarations
    declaration : {s t : Point} → Optional (XmlDecl doc) s t → Ends early e os s mode.First t
    unfolding class_of class_step
    declaration {s = s} omitted = here early s mode.First refl
    declaration (present (xmldecl x omitted y)) =
        record {
          last = mode.Prolog;
          good = refl;
          reach = ◌⨾◌ opened nested doc room (steps.texted opened nested doc room e os 0xFE class.XmlDecl mode.First mode.AfterXmlDecl refl refl (λ s. refl) (λ s. refl) x) (steps.after_xmldecl opened nested doc room e os y);
        }
    declaration (present (xmldecl x (present z) y)) =
        record {
          last = mode.Prolog;
          good = refl;
          reach =
              ◌⨾◌ opened nested doc room (steps.texted opened nested doc room e os 0xFE class.XmlDecl mode.First mode.AfterXmlDecl refl refl (λ s. refl) (λ s. refl) x)
              (◌⨾◌ opened nested doc room (steps.encoding opened nested doc room e os z) (steps.after_encoding opened nested doc room e os y));
        }

    -- the parts of a document type, each from a mode that its own test allows
    subset : (m : Mode) {s t : Point} → content m ≡ true → (is m mode.AfterDocType || is m mode.AfterSystem || is m mode.AfterPublic) ≡ true
        → Optional (TextToken doc 0xF9) s t → Ends content e os s m t
    unfolding class_of class_step
    subset m {s = s} c a omitted = here content s m c
    subset m c a (present x) =
        record { last = mode.Content; good = refl; reach = steps.texted opened nested doc room e os 0xF9 class.Subset m mode.Content (content_not m c) refl (λ s. a) (λ s. refl) x }

    then_subset : (m n : Mode) {s t u : Point} → content n ≡ true → (is n mode.AfterDocType || is n mode.AfterSystem || is n mode.AfterPublic) ≡ true
        → Reach opened nested doc room (state_of s m e os) (state_of t n e os) → Optional (TextToken doc 0xF9) t u → Ends content e os s m u
    then_subset m n c a r x =
        let y = subset n c a x in
        record { last = y.last; good = y.good; reach = ◌⨾◌ opened nested doc room r y.reach }

    public : (m : Mode) {s t u : Point} → content m ≡ true → (is m mode.AfterDocType || is m mode.AfterSystem) ≡ true → Optional (TextToken doc 0xFA) s t
        → Optional (TextToken doc 0xF9) t u → Ends content e os s m u
    unfolding class_of class_step
    public m c a omitted y = subset m c (or_left _ _ a) y
    public m c a (present x) y =
        then_subset m mode.AfterPublic refl refl (steps.texted opened nested doc room e os 0xFA class.Public m mode.AfterPublic (content_not m c) refl (λ s. a) (λ s. refl) x) y

    then_public : (m n : Mode) {s t u v : Point} → content n ≡ true → (is n mode.AfterDocType || is n mode.AfterSystem) ≡ true
        → Reach opened nested doc room (state_of s m e os) (state_of t n e os) → Optional (TextToken doc 0xFA) t u → Optional (TextToken doc 0xF9) u v → Ends content e os s m v
    then_public m n c a r x z =
        let y = public n c a x z in
        record { last = y.last; good = y.good; reach = ◌⨾◌ opened nested doc room r y.reach }

    doc_type_fact : (m : Mode) {s t : Point} → early m ≡ true → DocTypeDecl doc s t → Ends content e os s m t
    unfolding class_of class_step
    doc_type_fact m h (doctypedecl x omitted y z) =
        then_public m mode.AfterDocType refl refl (steps.texted opened nested doc room e os 0xFC class.DocType m mode.AfterDocType (content_not m (early_content m h)) refl (λ s. h) (λ s. refl) x) y z
    doc_type_fact m h (doctypedecl x (present w) y z) =
        then_public m mode.AfterSystem refl refl
        (◌⨾◌ opened nested doc room (steps.texted opened nested doc room e os 0xFC class.DocType m mode.AfterDocType (content_not m (early_content m h)) refl (λ s. h) (λ s. refl) x)
        (steps.texted opened nested doc room e os 0xFB class.System mode.AfterDocType mode.AfterSystem refl refl (λ s. refl) (λ s. refl) w)) y z

    type_walk : (m : Mode) {s t : Point} → early m ≡ true → Optional (Typed doc) s t → Ends content e os s m t
    type_walk m {s = s} h omitted = here content s m (early_content m h)
    type_walk m h (present (typed x y)) =
        let a = doc_type_fact m h x in
        let b = star content (λ s t n c z. misc_content_walk n c z) a.last a.good y in
        record { last = b.last; good = b.good; reach = ◌⨾◌ opened nested doc room a.reach b.reach }

    prolog : {s a b c : Point} → Optional (XmlDecl doc) s a → Star (Misc doc) a b → Optional (Typed doc) b c → Ends content e os s mode.First c
    prolog x y z =
        let a = declaration x in
        let b = star early (λ s t n c w. misc_early_walk n c w) a.last a.good y in
        let c = type_walk b.last b.good z in
        record { last = c.last; good = c.good; reach = ◌⨾◌ opened nested doc room a.reach (◌⨾◌ opened nested doc room b.reach c.reach) }

  -- ---- content, elements and documents

  record Walk (d : Depth) (s t : Point) : Type 0 where
    from : (m : Mode) (e : ℕ) (os : List Scope) → content m ≡ true → Fit d e os → Ends content e os s m t

  pub record Reads (d : Depth) (version : ℕ) (s t : Point) : Type 0 where
    pub header : HeaderBytes doc s.at version
    pub from : (os : List Scope) → Fit d 0 os → Ends content 0 os (past_header s version) mode.First t

  leaf : {s t : Point} → ((m : Mode) (e : ℕ) (os : List Scope) → content m ≡ true → Ends content e os s m t) → Walk flat s t
  leaf f = record { from = λ m e os c l. f m e os c }

  both_walk : {d n : Depth} {s t u : Point} → Walk d s t → Walk n t u → Walk (both d n) s u
  both_walk {d} {n} a b =
      record {
        from = λ m e os c l.
            let x = a.from m e os c (fit-left d n e os l) in
            let y = b.from x.last e os x.good (fit-right d n e os l) in
            record { last = y.last; good = y.good; reach = ◌⨾◌ opened nested doc room x.reach y.reach };
      }

  element_walk : (d : Depth) (s a t : Point) {number next : ℕ} → Byte doc s.at 0xF8 → QnameReference doc s (s.at + 1) number next
      → Optional (Attributes doc) (past_qname s 0xF8 number next) a → Walk d a t → Byte doc t.at 0xF7 → Walk (in_element d) s (past_end t 0xF7)
  element_walk d s a t b n o w f =
      record {
        from = λ m e os c l.
            let i = fit-element d e os l in
            let x = tag (e + 1) os o in
            let y = w.from x.last (e + 1) os x.good i.1 in
            record {
              last = mode.Content;
              good = refl;
              reach =
                  ◌⨾◌ opened nested doc room (steps.opens opened nested doc room e os m s (content_not m c) c i.0 b n)
                  (◌⨾◌ opened nested doc room x.reach (◌⨾◌ opened nested doc room y.reach (steps.closes opened nested doc room e os y.last t (content_not y.last y.good) y.good f)));
            };
      }

  nested_walk : (d : Depth) (version : ℕ) (s t : Point) → Byte doc s.at 0xEC → Reads d version (past_nest s version) t → Byte doc t.at 0xEB
      → Walk (in_document d) s (past_end_nest s t)
  nested_walk d version s t b w f =
      record {
        from = λ m e os c l.
            let o = scope s.version s.known s.qknown e in
            let i = fit-document d o os l in
            let y = w.from (o ∷ os) i.1 in
            record {
              last = mode.Content;
              good = refl;
              reach =
                  ◌⨾◌ opened nested doc room (steps.nests opened nested doc room e os m s version (content_not m c) c i.0 b w.header)
                  (◌⨾◌ opened nested doc room y.reach (steps.leaves opened nested doc room e os y.last s t (nested-some o os) (content_not y.last y.good) y.good f));
            };
      }

  document_reads : {d : Depth} {version : ℕ} {s a b c t : Point} → HeaderBytes doc s.at version → Optional (XmlDecl doc) (past_header s version) a → Star (Misc doc) a b
      → Optional (Typed doc) b c → Walk d c t → Reads d version s t
  document_reads h x y z w =
      record {
        header = h;
        from = λ os l.
            let a = prolog 0 os x y z in
            let b = w.from a.last 0 os a.good l in
            record { last = b.last; good = b.good; reach = ◌⨾◌ opened nested doc room a.reach b.reach };
      }

  pub reads : {d : Depth} {version : ℕ} {s t : Point} → Document doc d version s t → Reads d version s t
  reads x = elim x as (λ d v s t x. Reads d v s t) (λ d s t x. Walk d s t) (λ d s t x. Walk d s t) (λ d s t x. Walk d s t) (λ d s t x. Walk d s t) [
    | document h o w y (k → a) ↦ document_reads h o w y a
    | done {s = s} ↦ leaf (λ m e os c. here e os content s m c)
    | then (i → a) (k → b) ↦ both_walk a b
    | an_element (i → a) ↦ a
    | a_cdsect v ↦ leaf (λ m e os c. record { last = mode.Content; good = refl; reach = section e os m c v })
    | a_pi v ↦ leaf (λ m e os c. misc_content_walk e os m c (misc_pi v))
    | a_comment v ↦ leaf (λ m e os c. misc_content_walk e os m c (misc_comment v))
    | an_atomicvalue v ↦ leaf (λ m e os c. record { last = after_value m; good = value_content m c; reach = steps.value opened nested doc room e os m (content_not m c) (or_left _ _ c) v })
    | a_metadata v ↦ leaf (λ m e os c. misc_content_walk e os m c (misc_metadata v))
    | a_nestedbinaryxml (i → a) ↦ a
    | element {m = d} {s = s} {a = p} {t = t} b n o (k → a) f ↦ element_walk d s p t b n o a f
    | nestedbinaryxml {m = d} {version = v} {s = s} {t = t} b (k → a) f ↦ nested_walk d v s t b a f
  ]
