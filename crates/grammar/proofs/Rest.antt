-- What is left to derive from a point, where a mode stands and so much is open: what a reading that goes on to its end has
-- read is put together from its last token to its first. Assumes nothing.
use Prim.Native.Nat.{ℕ, ◌+◌, ◌-◌, ◌≤◌, ◌<◌}
use mathlib.Core.Path.{◌≡◌, refl}
use mathlib.Core.Bool.{true, ◌||◌}
use mathlib.Core.List.{List, [], ◌∷◌, ◌++◌}
use native.Mathlib.Omega.{arith}
use lib.ListN.{length}
use Rattle.modes.specs.Modes.{content, in_attributes, in_declaration, is, after_metadata, after_misc, after_value}
use Rattle.modes.specs.declared.Mode.{Mode}
use Rattle.modes.specs.declared.Mode.TheVariants as mode
use Rattle.machine.specs.Machine.{event, Scope, scope, elements_in}
use Rattle.grammar.specs.Grammar.{Point, point, past_qname, past_end, past_header, past_nest, Byte, Star, nil, cons, Optional, omitted, present, Depth, flat, QnameReference, TextToken, HeaderBytes, Standalone, XmlDecl, xmldecl, doctypedecl, Metadata, Misc, misc_metadata, cdsect, AtomicValue, Part, part_metadata, part_value, Attribute, attribute, Attributes, attributes, Typed, typed, Document, document, Content, done, then, Item, an_element, a_cdsect, an_atomicvalue, a_metadata, a_nestedbinaryxml, element, nestedbinaryxml}

-- two different constructors are equal: anything follows
pub clash : {A : Type 0} → ◌≡◌ {A = ℕ} 0 1 → A
clash z = absurd (let q : ⊥ = omega arith in q)

-- ENDNEST: the document around comes back
abbrev pub back : Scope → Point → Point
back o s = point (s.at + 1) o.version o.names o.qnames s.names s.qnames (s.events ++ (event 0xEB s.at 0 0 ∷ []))

-- so deep a part may stand where `e` elements of this document are open, inside of these documents
pub record Few (e : ℕ) (os : List Scope) (m : Depth) : Type 0 where
  pub elements : m.elements ≤ 64 - (elements_in os + e)
  pub nested : m.nested ≤ 8 - length os

flat_few : (e : ℕ) (os : List Scope) → Few e os flat
flat_few e os = record { elements = omega arith; nested = omega arith }

module _ (doc : List ℕ) where
  -- from the end of the innermost content on
  pub data Tail : ℕ → List Scope → Point → Point → Type 0 where
    root : {e : ℕ} {s : Point} → e ≡ 0 → s.at ≡ length doc → Tail e [] s s
    close : {f e : ℕ} {os : List Scope} {m : Depth} {s t u : Point} → f ≡ e + 1 → Byte doc s.at 0xF7 → Content doc m (past_end s 0xF7) t → Few e os m
        → Tail e os t u → Tail f os s u
    leave : {f : ℕ} {o : Scope} {os : List Scope} {m : Depth} {s t u : Point} → f ≡ 0 → Byte doc s.at 0xEB → Content doc m (back o s) t → Few o.elements os m
        → Tail o.elements os t u → Tail f (o ∷ os) s u

  -- the rest of the innermost content, and then the tail
  pub data Body (e : ℕ) (os : List Scope) : Point → Point → Type 0 where
    body : {m : Depth} {s t u : Point} → Content doc m s t → Few e os m → Tail e os t u → Body e os s u

  pub data Rest (e : ℕ) (os : List Scope) : Mode → Point → Point → Type 0 where
    of_content : {s u : Point} → Body e os s u → Rest e os mode.Content s u
    of_tag : {s a u : Point} → Optional (Attributes doc) s a → Body e os a u → Rest e os mode.Tag s u
    of_attributes : {s v b u : Point} → Star (Part doc) s v → Star (Attribute doc) v b → Byte doc b.at 0xF5 → Body e os (past_end b 0xF5) u
        → Rest e os mode.Attributes s u
    of_first : {s a b c u : Point} → Optional (XmlDecl doc) s a → Star (Misc doc) a b → Optional (Typed doc) b c → Body e os c u → Rest e os mode.First s u
    of_prolog : {s b c u : Point} → Star (Misc doc) s b → Optional (Typed doc) b c → Body e os c u → Rest e os mode.Prolog s u
    of_doctype : {s a b c u : Point} → Optional (TextToken doc 0xFB) s a → Optional (TextToken doc 0xFA) a b → Optional (TextToken doc 0xF9) b c → Body e os c u
        → Rest e os mode.AfterDocType s u
    of_system : {s b c u : Point} → Optional (TextToken doc 0xFA) s b → Optional (TextToken doc 0xF9) b c → Body e os c u → Rest e os mode.AfterSystem s u
    of_public : {s c u : Point} → Optional (TextToken doc 0xF9) s c → Body e os c u → Rest e os mode.AfterPublic s u
    of_cdata : {s t u : Point} → Star (TextToken doc 0xF2) s t → Byte doc t.at 0xF1 → Body e os (past_end t 0xF1) u → Rest e os mode.Cdata s u
    of_xmldecl : {s a b c d u : Point} → Optional (TextToken doc 0xFD) s a → Standalone doc a b → Star (Misc doc) b c → Optional (Typed doc) c d → Body e os d u
        → Rest e os mode.AfterXmlDecl s u
    of_encoding : {s b c d u : Point} → Standalone doc s b → Star (Misc doc) b c → Optional (Typed doc) c d → Body e os d u → Rest e os mode.AfterEncoding s u

  -- ---- one thing in front of the rest
  module _ {e : ℕ} {os : List Scope} where
    -- an item of content
    front : {m : Depth} {s t u : Point} → Item doc m s t → Few e os m → Body e os t u → Body e os s u
    front i f (body c g t) =
        let a = f.elements in
        let b = f.nested in
        let p = g.elements in
        let q = g.nested in
        body (then i c) (record { elements = omega arith; nested = omega arith }) t

    leaf : {s t u : Point} → Item doc flat s t → Body e os t u → Body e os s u
    leaf i b = front i (flat_few e os) b

    -- content may begin wherever it may stand
    pub before : (m : Mode) {s u : Point} → content m ≡ true → Body e os s u → Rest e os m s u
    before mode.Content c b = of_content b
    before mode.Tag c b = of_tag omitted b
    before mode.First c b = of_first omitted nil omitted b
    before mode.Prolog c b = of_prolog nil omitted b
    before mode.AfterDocType c b = of_doctype omitted omitted omitted b
    before mode.AfterSystem c b = of_system omitted omitted b
    before mode.AfterPublic c b = of_public omitted b
    before mode.Attributes c b = clash (cc)
    before mode.Cdata c b = clash (cc)
    before mode.AfterXmlDecl c b = clash (cc)
    before mode.AfterEncoding c b = clash (cc)

    -- the rest of content, which is what stands after most tokens
    inside : {s u : Point} → Rest e os mode.Content s u → Body e os s u
    inside (of_content b) = b

    pub item : (m : Mode) {s t u : Point} → content m ≡ true → Item doc flat s t → Rest e os mode.Content t u → Rest e os m s u
    item m c i r = before m c (leaf i (inside r))

    -- metadata, in a tag: of the first attribute if there is one, else of the content
    in_tag : {s t a u : Point} → Metadata doc s t → Optional (Attributes doc) t a → Body e os a u → Rest e os mode.Tag s u
    in_tag x omitted b = of_tag omitted (leaf (a_metadata x) b)
    in_tag x (present (attributes (attribute w y n p) z f)) b = of_tag (present (attributes (attribute (cons x w) y n p) z f)) b

    pub metadata : (m : Mode) {s t u : Point} → (content m || in_attributes m) ≡ true → Metadata doc s t → Rest e os (after_metadata m) t u → Rest e os m s u
    metadata mode.Content c x r = item mode.Content refl (a_metadata x) r
    metadata mode.Tag c x (of_tag a b) = in_tag x a b
    metadata mode.First c x (of_prolog w t b) = of_first omitted (cons (misc_metadata x) w) t b
    metadata mode.Prolog c x (of_prolog w t b) = of_prolog (cons (misc_metadata x) w) t b
    metadata mode.AfterDocType c x r = item mode.AfterDocType refl (a_metadata x) r
    metadata mode.AfterSystem c x r = item mode.AfterSystem refl (a_metadata x) r
    metadata mode.AfterPublic c x r = item mode.AfterPublic refl (a_metadata x) r
    metadata mode.Attributes c x (of_attributes p w f b) = of_attributes (cons (part_metadata x) p) w f b
    metadata mode.Cdata c x r = clash (cc)
    metadata mode.AfterXmlDecl c x r = clash (cc)
    metadata mode.AfterEncoding c x r = clash (cc)

    -- a comment or a PI
    pub misc : (m : Mode) {s t u : Point} → content m ≡ true → Misc doc s t → Item doc flat s t → Rest e os (after_misc m) t u → Rest e os m s u
    misc mode.Content c x i r = item mode.Content refl i r
    misc mode.Tag c x i r = item mode.Tag refl i r
    misc mode.First c x i (of_prolog w t b) = of_first omitted (cons x w) t b
    misc mode.Prolog c x i (of_prolog w t b) = of_prolog (cons x w) t b
    misc mode.AfterDocType c x i r = item mode.AfterDocType refl i r
    misc mode.AfterSystem c x i r = item mode.AfterSystem refl i r
    misc mode.AfterPublic c x i r = item mode.AfterPublic refl i r
    misc mode.Attributes c x i r = clash (cc)
    misc mode.Cdata c x i r = clash (cc)
    misc mode.AfterXmlDecl c x i r = clash (cc)
    misc mode.AfterEncoding c x i r = clash (cc)

    -- a value, also of an attribute
    pub value : (m : Mode) {s t u : Point} → (content m || in_attributes m) ≡ true → AtomicValue doc s t → Rest e os (after_value m) t u → Rest e os m s u
    value mode.Content c x r = item mode.Content refl (an_atomicvalue x) r
    value mode.Tag c x r = item mode.Tag refl (an_atomicvalue x) r
    value mode.First c x r = item mode.First refl (an_atomicvalue x) r
    value mode.Prolog c x r = item mode.Prolog refl (an_atomicvalue x) r
    value mode.AfterDocType c x r = item mode.AfterDocType refl (an_atomicvalue x) r
    value mode.AfterSystem c x r = item mode.AfterSystem refl (an_atomicvalue x) r
    value mode.AfterPublic c x r = item mode.AfterPublic refl (an_atomicvalue x) r
    value mode.Attributes c x (of_attributes p w f b) = of_attributes (cons (part_value x) p) w f b
    value mode.Cdata c x r = clash (cc)
    value mode.AfterXmlDecl c x r = clash (cc)
    value mode.AfterEncoding c x r = clash (cc)

    -- ---- declarations
    pub xml_decl_fact : (m : Mode) {s t u : Point} → is m mode.First ≡ true → TextToken doc 0xFE s t → Rest e os mode.AfterXmlDecl t u → Rest e os m s u
    xml_decl_fact mode.First c x (of_xmldecl o y w t b) = of_first (present (xmldecl x o y)) w t b
    xml_decl_fact mode.Content c x r = clash (cc)
    xml_decl_fact mode.Tag c x r = clash (cc)
    xml_decl_fact mode.Prolog c x r = clash (cc)
    xml_decl_fact mode.AfterDocType c x r = clash (cc)
    xml_decl_fact mode.AfterSystem c x r = clash (cc)
    xml_decl_fact mode.AfterPublic c x r = clash (cc)
    xml_decl_fact mode.Attributes c x r = clash (cc)
    xml_decl_fact mode.Cdata c x r = clash (cc)
    xml_decl_fact mode.AfterXmlDecl c x r = clash (cc)
    xml_decl_fact mode.AfterEncoding c x r = clash (cc)

    pub encoding : {s t u : Point} → TextToken doc 0xFD s t → Rest e os mode.AfterEncoding t u → Rest e os mode.AfterXmlDecl s u
    encoding x (of_encoding y w t b) = of_xmldecl (present x) y w t b

    pub doc_type_fact : (m : Mode) {s t u : Point} → (is m mode.First || is m mode.Prolog) ≡ true → TextToken doc 0xFC s t → Rest e os mode.AfterDocType t u → Rest e os m s u
    doc_type_fact mode.First c x (of_doctype p q r b) = of_first omitted nil (present (typed (doctypedecl x p q r) nil)) b
    doc_type_fact mode.Prolog c x (of_doctype p q r b) = of_prolog nil (present (typed (doctypedecl x p q r) nil)) b
    doc_type_fact mode.Content c x r = clash (cc)
    doc_type_fact mode.Tag c x r = clash (cc)
    doc_type_fact mode.AfterDocType c x r = clash (cc)
    doc_type_fact mode.AfterSystem c x r = clash (cc)
    doc_type_fact mode.AfterPublic c x r = clash (cc)
    doc_type_fact mode.Attributes c x r = clash (cc)
    doc_type_fact mode.Cdata c x r = clash (cc)
    doc_type_fact mode.AfterXmlDecl c x r = clash (cc)
    doc_type_fact mode.AfterEncoding c x r = clash (cc)

    pub system : (m : Mode) {s t u : Point} → is m mode.AfterDocType ≡ true → TextToken doc 0xFB s t → Rest e os mode.AfterSystem t u → Rest e os m s u
    system mode.AfterDocType c x (of_system q r b) = of_doctype (present x) q r b
    system mode.Content c x r = clash (cc)
    system mode.Tag c x r = clash (cc)
    system mode.First c x r = clash (cc)
    system mode.Prolog c x r = clash (cc)
    system mode.AfterSystem c x r = clash (cc)
    system mode.AfterPublic c x r = clash (cc)
    system mode.Attributes c x r = clash (cc)
    system mode.Cdata c x r = clash (cc)
    system mode.AfterXmlDecl c x r = clash (cc)
    system mode.AfterEncoding c x r = clash (cc)

    pub public : (m : Mode) {s t u : Point} → (is m mode.AfterDocType || is m mode.AfterSystem) ≡ true → TextToken doc 0xFA s t → Rest e os mode.AfterPublic t u → Rest e os m s u
    public mode.AfterDocType c x (of_public r b) = of_doctype omitted (present x) r b
    public mode.AfterSystem c x (of_public r b) = of_system (present x) r b
    public mode.Content c x r = clash (cc)
    public mode.Tag c x r = clash (cc)
    public mode.First c x r = clash (cc)
    public mode.Prolog c x r = clash (cc)
    public mode.AfterPublic c x r = clash (cc)
    public mode.Attributes c x r = clash (cc)
    public mode.Cdata c x r = clash (cc)
    public mode.AfterXmlDecl c x r = clash (cc)
    public mode.AfterEncoding c x r = clash (cc)

    pub subset : (m : Mode) {s t u : Point} → (is m mode.AfterDocType || is m mode.AfterSystem || is m mode.AfterPublic) ≡ true → TextToken doc 0xF9 s t → Rest e os mode.Content t u → Rest e os m s u
    subset mode.AfterDocType c x r = of_doctype omitted omitted (present x) (inside r)
    subset mode.AfterSystem c x r = of_system omitted (present x) (inside r)
    subset mode.AfterPublic c x r = of_public (present x) (inside r)
    subset mode.Content c x r = clash (cc)
    subset mode.Tag c x r = clash (cc)
    subset mode.First c x r = clash (cc)
    subset mode.Prolog c x r = clash (cc)
    subset mode.Attributes c x r = clash (cc)
    subset mode.Cdata c x r = clash (cc)
    subset mode.AfterXmlDecl c x r = clash (cc)
    subset mode.AfterEncoding c x r = clash (cc)

    -- either of the two bytes where the standalone byte may stand
    pub standing : (m : Mode) {s t u : Point} → in_declaration m ≡ true → Standalone doc s t → Rest e os mode.Prolog t u → Rest e os m s u
    standing mode.AfterXmlDecl c x (of_prolog w t b) = of_xmldecl omitted x w t b
    standing mode.AfterEncoding c x (of_prolog w t b) = of_encoding x w t b
    standing mode.Content c x r = clash (cc)
    standing mode.Tag c x r = clash (cc)
    standing mode.First c x r = clash (cc)
    standing mode.Prolog c x r = clash (cc)
    standing mode.AfterDocType c x r = clash (cc)
    standing mode.AfterSystem c x r = clash (cc)
    standing mode.AfterPublic c x r = clash (cc)
    standing mode.Attributes c x r = clash (cc)
    standing mode.Cdata c x r = clash (cc)

    -- ---- CDATA and attributes
    section : {s t u : Point} → TextToken doc 0xF2 s t → Rest e os mode.Cdata t u → Body e os s u
    section x (of_cdata w f b) = leaf (a_cdsect (cdsect x w f)) b

    further : {s t u : Point} → TextToken doc 0xF2 s t → Rest e os mode.Cdata t u → Rest e os mode.Cdata s u
    further x (of_cdata w f b) = of_cdata (cons x w) f b

    pub cdata : (m : Mode) {s t u : Point} → (content m || is m mode.Cdata) ≡ true → TextToken doc 0xF2 s t → Rest e os mode.Cdata t u → Rest e os m s u
    cdata mode.Content c x r = before mode.Content refl (section x r)
    cdata mode.Tag c x r = before mode.Tag refl (section x r)
    cdata mode.First c x r = before mode.First refl (section x r)
    cdata mode.Prolog c x r = before mode.Prolog refl (section x r)
    cdata mode.AfterDocType c x r = before mode.AfterDocType refl (section x r)
    cdata mode.AfterSystem c x r = before mode.AfterSystem refl (section x r)
    cdata mode.AfterPublic c x r = before mode.AfterPublic refl (section x r)
    cdata mode.Attributes c x r = clash (cc)
    cdata mode.Cdata c x r = further x r
    cdata mode.AfterXmlDecl c x r = clash (cc)
    cdata mode.AfterEncoding c x r = clash (cc)

    pub cdata_end : (m : Mode) (s : Point) {u : Point} → is m mode.Cdata ≡ true → Byte doc s.at 0xF1 → Rest e os mode.Content (past_end s 0xF1) u → Rest e os m s u
    cdata_end mode.Cdata s c x r = of_cdata nil x (inside r)
    cdata_end mode.Content s c x r = clash (cc)
    cdata_end mode.Tag s c x r = clash (cc)
    cdata_end mode.First s c x r = clash (cc)
    cdata_end mode.Prolog s c x r = clash (cc)
    cdata_end mode.AfterDocType s c x r = clash (cc)
    cdata_end mode.AfterSystem s c x r = clash (cc)
    cdata_end mode.AfterPublic s c x r = clash (cc)
    cdata_end mode.Attributes s c x r = clash (cc)
    cdata_end mode.AfterXmlDecl s c x r = clash (cc)
    cdata_end mode.AfterEncoding s c x r = clash (cc)

    pub att : (m : Mode) (s : Point) {u : Point} {number next : ℕ} → (is m mode.Tag || in_attributes m) ≡ true → Byte doc s.at 0xF6 → QnameReference doc s (s.at + 1) number next → Rest e os mode.Attributes (past_qname s 0xF6 number next) u → Rest e os m s u
    att mode.Tag s c x n (of_attributes p w f b) = of_tag (present (attributes (attribute nil x n p) w f)) b
    att mode.Attributes s c x n (of_attributes p w f b) = of_attributes nil (cons (attribute nil x n p) w) f b
    att mode.Content s c x n r = clash (cc)
    att mode.First s c x n r = clash (cc)
    att mode.Prolog s c x n r = clash (cc)
    att mode.AfterDocType s c x n r = clash (cc)
    att mode.AfterSystem s c x n r = clash (cc)
    att mode.AfterPublic s c x n r = clash (cc)
    att mode.Cdata s c x n r = clash (cc)
    att mode.AfterXmlDecl s c x n r = clash (cc)
    att mode.AfterEncoding s c x n r = clash (cc)

    pub att_end : (m : Mode) (s : Point) {u : Point} → in_attributes m ≡ true → Byte doc s.at 0xF5 → Rest e os mode.Content (past_end s 0xF5) u → Rest e os m s u
    att_end mode.Attributes s c x r = of_attributes nil nil x (inside r)
    att_end mode.Content s c x r = clash (cc)
    att_end mode.Tag s c x r = clash (cc)
    att_end mode.First s c x r = clash (cc)
    att_end mode.Prolog s c x r = clash (cc)
    att_end mode.AfterDocType s c x r = clash (cc)
    att_end mode.AfterSystem s c x r = clash (cc)
    att_end mode.AfterPublic s c x r = clash (cc)
    att_end mode.Cdata s c x r = clash (cc)
    att_end mode.AfterXmlDecl s c x r = clash (cc)
    att_end mode.AfterEncoding s c x r = clash (cc)

  -- ---- elements and nested documents
  open_body : (e : ℕ) (os : List Scope) (s : Point) {m : Depth} {a t u : Point} {number next : ℕ} → elements_in os + e < 64 → Byte doc s.at 0xF8 → QnameReference doc s (s.at + 1) number next
      → Optional (Attributes doc) (past_qname s 0xF8 number next) a → Content doc m a t → Few (e + 1) os m → Tail (e + 1) os t u → Body e os s u
  open_body e os s l b n o c f (root z w) = absurd (let q : ⊥ = omega arith in q)
  open_body e os s l b n o c f (leave z x y g t) = absurd (let q : ⊥ = omega arith in q)
  open_body e os s l b n o c f (close {e = e'} z x y g t) =
      let h : e' ≡ e = omega arith in
      let i = f.elements in
      let j = f.nested in
      front (an_element (element b n o c x)) (record { elements = omega arith; nested = omega arith }) (body y (rw h at g) (rw h at t))

  pub opening : (m : Mode) (e : ℕ) (os : List Scope) (s : Point) {u : Point} {number next : ℕ} → content m ≡ true → elements_in os + e < 64 → Byte doc s.at 0xF8
      → QnameReference doc s (s.at + 1) number next → Rest (e + 1) os mode.Tag (past_qname s 0xF8 number next) u → Rest e os m s u
  opening m e os s c l b n (of_tag o (body x f t)) = before m c (open_body e os s l b n o x f t)

  pub closing : (m : Mode) (e : ℕ) (os : List Scope) (s : Point) {u : Point} → content m ≡ true → 0 < e → Byte doc s.at 0xF7
      → Rest (e - 1) os mode.Content (past_end s 0xF7) u → Rest e os m s u
  closing m e os s c l b (of_content (body x f t)) = before m c (body done (flat_few e os) (close (let q : e ≡ (e - 1) + 1 = omega arith in q) b x f t))

  nest_body : (e : ℕ) (os : List Scope) (s : Point) (version : ℕ) {m : Depth} {a b c t u : Point} → length os < 8 → Byte doc s.at 0xEC → HeaderBytes doc (s.at + 1) version
      → Optional (XmlDecl doc) (past_header (past_nest s version) version) a → Star (Misc doc) a b → Optional (Typed doc) b c → Content doc m c t
      → Few 0 (scope s.version s.known s.qknown e ∷ os) m → Tail 0 (scope s.version s.known s.qknown e ∷ os) t u → Body e os s u
  nest_body e os s version l b h o w y x f (close z k v g t) = absurd (let q : ⊥ = omega arith in q)
  nest_body e os s version l b h o w y x f (leave z k v g t) =
      let i = f.elements in
      let j = f.nested in
      front (a_nestedbinaryxml (nestedbinaryxml b (document h o w y x) k)) (record { elements = omega arith; nested = omega arith }) (body v g t)

  pub nest : (m : Mode) (e : ℕ) (os : List Scope) (s : Point) (version : ℕ) {u : Point} → content m ≡ true → length os < 8 → Byte doc s.at 0xEC
      → HeaderBytes doc (s.at + 1) version
      → Rest 0 (scope s.version s.known s.qknown e ∷ os) mode.First (past_header (past_nest s version) version) u → Rest e os m s u
  nest m e os s version c l b h (of_first o w y (body x f t)) = before m c (nest_body e os s version l b h o w y x f t)

  pub leaving : (m : Mode) (e : ℕ) (o : Scope) (os : List Scope) (s : Point) {u : Point} → content m ≡ true → e ≡ 0 → Byte doc s.at 0xEB
      → Rest o.elements os mode.Content (back o s) u → Rest e (o ∷ os) m s u
  leaving m e o os s c z b (of_content (body x f t)) = before m c (body done (flat_few e (o ∷ os)) (leave z b x f t))

  -- ---- the end of the document, and the whole of it
  pub ending : (m : Mode) (s : Point) → content m ≡ true → s.at ≡ length doc → Rest 0 [] m s s
  ending m s c l = before m c (body done (flat_few 0 []) (root refl l))

  pub record Whole (s u : Point) (version : ℕ) : Type 0 where
    pub deep : Depth
    pub derived : Document doc deep version s u
    pub whole : u.at ≡ length doc
    pub elements_few : deep.elements ≤ 64
    pub nested_few : deep.nested ≤ 8

  whole_by : {s a b c t u : Point} {version : ℕ} {m : Depth} → HeaderBytes doc s.at version → Optional (XmlDecl doc) (past_header s version) a → Star (Misc doc) a b
      → Optional (Typed doc) b c → Content doc m c t → Few 0 [] m → Tail 0 [] t u → Whole s u version
  whole_by h o w y x f (close z k v g t) = absurd (let q : ⊥ = omega arith in q)
  whole_by h o w y x f (root z l) =
      record { deep = _; derived = document h o w y x; whole = l; elements_few = omega (arith, f.elements); nested_few = omega (arith, f.nested) }

  pub wholly : {s u : Point} {version : ℕ} → HeaderBytes doc s.at version → Rest 0 [] mode.First (past_header s version) u → Whole s u version
  wholly h (of_first o w y (body x f t)) = whole_by h o w y x f t
