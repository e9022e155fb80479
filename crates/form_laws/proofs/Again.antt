-- The form of a reading is read to its end, with the events of the reading: by induction over the source's steps, each
-- followed on the form by no step, or by definitions and the same event. Assumes nothing.
use Prim.Native.Nat.{ℕ, ◌+◌, ◌-◌, ◌*◌, ◌≤◌, ◌<◌}
use mathlib.Core.Path.{◌≡◌, refl, sym, ◌∙◌, ap}
use mathlib.Core.Bool.{true, ◌||◌, ◌&&◌}
use mathlib.Core.List.{List, [], ◌∷◌, ◌++◌, append_assoc, append-nil}
use native.Mathlib.Omega.{arith}
use lib.Dec.{ltb}
use lib.ListN.{length, get_or, length-append}
use borrow.Author.Tests.{ltb-true, eqb-true}
use Rattle.sequences.proofs.Tests.{and_left, and_right}
use Rattle.token.specs.Tokens.{longest, class_of}
use Rattle.token.specs.declared.Class.{Class}
use Rattle.token.specs.declared.Class.TheVariants as class
use Rattle.value.specs.Fields.{text, text_at}
use Rattle.std.specs.Prelude.{Ok}
use Rattle.modes.specs.Modes.{content, in_attributes, is, allowed, after_misc, after_value}
use Rattle.scan.specs.Steps.{text_step, class_step}
use Rattle.modes.specs.declared.Mode.{Mode}
use Rattle.modes.specs.declared.Mode.TheVariants as mode
use Rattle.scan.specs.declared.Room.{Room}
use Rattle.scan.specs.declared.Step.{Step}
use Rattle.scan.specs.declared.Step.TheVariants as step
use Rattle.machine.specs.Machine.{NameRow, QnameRow, EventRow, event, Scope, State, view, row_of, apply, returned, name_text, event_of}
use Rattle.machine.specs.Machine as machine
use Rattle.machine.proofs.Goes.{Goes}
use Rattle.machine.proofs.Trace as traces
use Rattle.machine.proofs.Trace.{Trace}
use Rattle.machine.proofs.Earlier.{Extends, only_added}
use Rattle.machine.proofs.Readings.{Ends}
use Rattle.machine.proofs.Codes.{coded}
use Rattle.machine.proofs.Facts.{qname_code}
use Rattle.machine.proofs.Found as found
use Rattle.machine.proofs.Found.{Found, Stands, TextLeads, found_step}
use Rattle.form.specs.Canonical.{body}
use Rattle.grammar.specs.Grammar.{XSD_QNAME, Point, qname_value}
use Rattle.grammar.proofs.Leaves.{name_found, qname_found, header_found}
use Rattle.grammar.proofs.Sound.{point_of}
use Rattle.grammar.proofs.Steps.{state_of, look, stay, texted, encoding, value, attribute, end_attributes, cdata_end, opens, closes}
use Rattle.grammar.proofs.Ends.{all_open, all_nested}
use Rattle.form_laws.proofs.Lists.{drop_none}
use Rattle.form_laws.proofs.Written.{Fit}
use Rattle.form_laws.proofs.Modes.{Earlier, same, earlier_equal, earlier_declares, earlier_text, is_listing, is_cdata, alike_earlier}
use Rattle.form_laws.proofs.Scopes.{onto_same, around_elements, around_depth}
use Rattle.form_laws.proofs.Define.{Few, Walk, less}
use Rattle.form_laws.proofs.Follow.{TextTold, Next, on_text, on_bare, on_qname}
use Rattle.form_laws.proofs.Turns.{value_may, on_value, on_standalone, on_pi, on_nest, leave_rows, on_leave, on_name, on_qnamedef, on_skip, on_flush}

-- metadata may stand where an element, and where an attribute may
content_or : (m : Mode) → content m ≡ true → (content m || in_attributes m) ≡ true
content_or m e = rw e

tag_or : (m : Mode) → (is m mode.Tag || in_attributes m) ≡ true → (content m || in_attributes m) ≡ true
tag_or mode.Content e = refl
tag_or mode.Tag e = refl
tag_or mode.First e = refl
tag_or mode.Prolog e = refl
tag_or mode.AfterDocType e = refl
tag_or mode.AfterSystem e = refl
tag_or mode.AfterPublic e = refl
tag_or mode.Attributes e = refl
tag_or mode.Cdata e = e
tag_or mode.AfterXmlDecl e = e
tag_or mode.AfterEncoding e = e

no_scope : {os : List Scope} → length os ≡ 0 → os ≡ []
no_scope {os = []} e = refl
no_scope {os = o ∷ os} e = absurd (let q : ⊥ = omega arith in q)

-- the event rows that a step adds
abbrev news : State → Step → List EventRow
news s (step.End place) = []
news s (step.Name place units next) = []
news s (step.Qname uri prefix local next) = []
news s (step.Skip next) = []
news s (step.Flush next) = []
news s (step.Event token a b m next) = event token s.at a b ∷ []
news s (step.Refer token number m next) = event token s.at (row_of s.here.qnames number.0) 0 ∷ []
news s (step.Open number next) = event 0xF8 s.at (row_of s.here.qnames number.0) 0 ∷ []
news s (step.Pi target start next) = event 0xF4 s.at (row_of s.here.names target.0) start ∷ []
news s (step.Close next) = event 0xF7 s.at 0 0 ∷ []
news s (step.Nest version next) = event 0xEC s.at version 0 ∷ []
news s (step.Leave next) = leave_rows s s.outer

returned_rows : (s : State) (os : List Scope) (next : ℕ) → (returned s os next).events ≡ s.events ++ leave_rows s os
returned_rows s [] next = sym (append-nil s.events)
returned_rows s (o ∷ os) next = refl

news_are : (s : State) (x : Step) → (apply s x).events ≡ s.events ++ news s x
news_are s (step.End place) = sym (append-nil s.events)
news_are s (step.Name place units next) = sym (append-nil s.events)
news_are s (step.Qname uri prefix local next) = sym (append-nil s.events)
news_are s (step.Skip next) = sym (append-nil s.events)
news_are s (step.Flush next) = sym (append-nil s.events)
news_are s (step.Event token a b m next) = refl
news_are s (step.Refer token number m next) = refl
news_are s (step.Open number next) = refl
news_are s (step.Pi target start next) = refl
news_are s (step.Close next) = refl
news_are s (step.Nest version next) = refl
news_are s (step.Leave next) = returned_rows s s.outer next

-- the event rows of a reading still to come
unfoldable pub rest : {d : List ℕ} {room : Room} {s u : State} → Trace d room s u → List EventRow
rest traces.none = []
rest (traces.by {s = s} x g e t) = news s x ++ rest t

pub rest_are : {d : List ℕ} {room : Room} {s u : State} (t : Trace d room s u) → u.events ≡ s.events ++ rest t
unfolding rest
rest_are (traces.none {s = s}) = sym (append-nil s.events)
rest_are (traces.by {s = s} x g e t) = rest_are t ∙ ap (λ (r : List EventRow). r ++ rest t) (news_are s x) ∙ append_assoc s.events (news s x) (rest t)

module _ (d : List ℕ) (d' : List ℕ) (room : Room) (u : State) (fit : (r : ℕ) → Fit (name_text d u.names r)) (short : length d ≤ longest)
    (names_few : length u.names ≤ 1024) (qnames_few : length u.qnames ≤ 1024) where
  abbrev N : List NameRow
  N = u.names

  abbrev Q : List QnameRow
  Q = u.qnames

  abbrev E : ℕ
  E = length u.events

  -- the way on from a state of the source
  abbrev pub Onward : State → List EventRow → Type 0
  Onward s rs = Next d N Q d' room fit E s rs

  few : {s : State} → Extends s u → Few s
  few {s} x =
      let a : length N ≡ length s.names + length x.names = ap length x.names_are ∙ length-append s.names x.names in
      let b : length Q ≡ length s.qnames + length x.qnames = ap length x.qnames_are ∙ length-append s.qnames x.qnames in
      record { names = omega arith; qnames = omega arith }

  -- ---- the end

  on_end : Ends (length d) (view u) → Onward u []
  unfolding body
  on_end e s' σ G o S =
      let a = alike_earlier o in
      let l = less d N Q d' room fit S in
      let n = S.events in
      record {
        end = s';
        walk = stay all_open all_nested d' room;
        onto = onto_same s'.names s'.qnames;
        rows = [];
        events = sym (append-nil s'.events);
        same = refl;
        tokens = refl;
        done =
            record {
              past = drop_none d' s'.at S.left;
              outer_none = no_scope (around_depth d N Q d' S.outer ∙ e.depth_none);
              elements_none = S.here.elements ∙ e.elements_none;
              at_root = a.contents ∙ e.at_root;
              names_few = l.names;
              qnames_few = l.qnames;
              events_few = omega arith;
            };
      }

  -- ---- texts

  -- the token of a class is followed by the same token
  on_class : {s : State} {rs : List EventRow} (k : ℕ) (c : Class) {place units : ℕ} {m : Mode} (to : Mode → Mode) → Stands d (view s) c → get_or d s.at 0 ≡ k
      → class_of k ≡ c → TextTold k → text_at 5 d (s.at + 1) ≡ Ok (text place units) → ((m' : Mode) → Earlier s.mode m' → Earlier m (to m'))
      → ((m' : Mode) → Earlier s.mode m' → (p : Point) (e : ℕ) (os : List Scope) → allowed c (look all_open all_nested d' room (state_of p m' e os)) ≡ true)
      → ((m' : Mode) (p : Point) (e : ℕ) (os : List Scope)
      → text_step d' (look all_open all_nested d' room (state_of p m' e os)) room k (to m') ≡ class_step c d' (look all_open all_nested d' room (state_of p m' e os)) room k)
      → Onward (machine.onward s (event (get_or d s.at 0) s.at place units) m s.here (place + 2 * units)) rs → Onward s (event (get_or d s.at 0) s.at place units ∷ rs)
  on_class k c to t i j says e modes may steps go =
      on_text d N Q d' room fit E k to i says e modes
      (λ s' q o x. texted all_open all_nested d' room s'.here.elements s'.outer k c s'.mode (to s'.mode) ((alike_earlier o).declarations ∙ t.outside) j
      (λ p. may s'.mode o p s'.here.elements s'.outer) (λ p. steps s'.mode p s'.here.elements s'.outer) x) go

  on_texted : {s : State} {rs : List EventRow} {c : Class} {place units : ℕ} {m : Mode} → Stands d (view s) c → TextLeads s.mode c m → text_at 5 d (s.at + 1) ≡ Ok (text place units)
      → Onward (machine.onward s (event (get_or d s.at 0) s.at place units) m s.here (place + 2 * units)) rs → Onward s (event (get_or d s.at 0) s.at place units ∷ rs)
  unfolding class_of class_step event_of
  on_texted {s} t found.xml_decl e go =
      on_class 0xFE class.XmlDecl (λ m. mode.AfterXmlDecl) t (eqb-true _ _ (coded (get_or d s.at 0) t.class_is)) refl (λ doc n q at a b. refl) e
      (λ m o. same) (λ m o p e os. earlier_text o found.xml_decl t.may) (λ m p e os. refl) go
  on_texted {s} t found.doc_type e go =
      on_class 0xFC class.DocType (λ m. mode.AfterDocType) t (eqb-true _ _ (coded (get_or d s.at 0) t.class_is)) refl (λ doc n q at a b. refl) e
      (λ m o. same) (λ m o p e os. earlier_text o found.doc_type t.may) (λ m p e os. refl) go
  on_texted {s} t found.system e go =
      on_class 0xFB class.System (λ m. mode.AfterSystem) t (eqb-true _ _ (coded (get_or d s.at 0) t.class_is)) refl (λ doc n q at a b. refl) e
      (λ m o. same) (λ m o p e os. earlier_text o found.system t.may) (λ m p e os. refl) go
  on_texted {s} t found.public e go =
      on_class 0xFA class.Public (λ m. mode.AfterPublic) t (eqb-true _ _ (coded (get_or d s.at 0) t.class_is)) refl (λ doc n q at a b. refl) e
      (λ m o. same) (λ m o p e os. earlier_text o found.public t.may) (λ m p e os. refl) go
  on_texted {s} t found.subset e go =
      on_class 0xF9 class.Subset (λ m. mode.Content) t (eqb-true _ _ (coded (get_or d s.at 0) t.class_is)) refl (λ doc n q at a b. refl) e
      (λ m o. same) (λ m o p e os. earlier_text o found.subset t.may) (λ m p e os. refl) go
  on_texted {s} t found.comment e go =
      on_class 0xF3 class.Comment after_misc t (eqb-true _ _ (coded (get_or d s.at 0) t.class_is)) refl (λ doc n q at a b. refl) e
      (λ m o. earlier_equal (alike_earlier o).miscs) (λ m o p e os. earlier_text o found.comment t.may) (λ m p e os. refl) go
  on_texted {s} t found.cdata e go =
      on_class 0xF2 class.Cdata (λ m. mode.Cdata) t (eqb-true _ _ (coded (get_or d s.at 0) t.class_is)) refl (λ doc n q at a b. refl) e
      (λ m o. same) (λ m o p e os. earlier_text o found.cdata t.may) (λ m p e os. refl) go

  -- a walk from a state whose mode is known
  from_mode : (p : Point) {m n : Mode} {e : ℕ} {os : List Scope} {t : State} → m ≡ n → Walk d N Q d' room fit (state_of p n e os) t → Walk d N Q d' room fit (state_of p m e os) t
  from_mode p i w = rw i w

  closing : (p : Point) (m : Mode) (e : ℕ) (os : List Scope) {t : State} → 0 < e → Walk d N Q d' room fit (state_of p m ((e - 1) + 1) os) t → Walk d N Q d' room fit (state_of p m e os) t
  closing p m e os l w = let z : (e - 1) + 1 ≡ e = omega arith in rw z at w

  -- ---- one step

  on_step : (s : State) {x : Step} {rs : List EventRow} → Goes x → Found d (view s) room (Ok x) → Extends s u → Extends (apply s x) u → Onward (apply s x) rs → Onward s (news s x ++ rs)
  unfolding class_of event_of
  on_step s g (found.ended l e c n) x y go = absurd g
  on_step s g (found.name_def {place = place} {units = units} t e n) x y go = on_name d N Q d' room fit E place units go
  on_step s g (found.qname_def {uri = uri} {prefix = prefix} {local = local} {p = p} {q = q} t a b c n) x y go =
      on_qnamedef d N Q d' room fit E uri.0 prefix.0 local.0 y.qnames (name_found d (point_of s) (s.at + 1) a).defined (name_found d (point_of s) p b).defined (name_found d (point_of s) q c).defined
      y.qnames_are go
  on_step s g (found.skip t e l) x y go = on_skip d N Q d' room fit E go
  on_step s g (found.flush t) x y go = on_flush d N Q d' room fit E go
  on_step s g (found.texted t l e n) x y go = on_texted t l e go
  on_step s g (found.encoding i m b e n) x y go =
      on_text d N Q d' room fit E 0xFD (λ m. mode.AfterEncoding) b (λ doc n q at a b. refl) e (λ m o. same)
      (λ s' q o z. from_mode (point_of s') (earlier_declares o (rw m) ∙ m) (encoding all_open all_nested d' room s'.here.elements s'.outer z)) go
  on_step s g (found.standalone i h b n) x y go = on_standalone d N Q d' room fit E (get_or d s.at 0) b h go
  on_step s g (found.end_attributes t n) x y go =
      on_bare d N Q d' room fit E 0xF5 mode.Content (λ e. e) (eqb-true _ _ (coded (get_or d s.at 0) t.class_is)) (λ doc n q at a b. refl) refl
      (λ s' o i b. from_mode (point_of s') (is_listing s'.mode ((alike_earlier o).listings ∙ t.may)) (end_attributes all_open all_nested d' room s'.here.elements s'.outer (point_of s') b)) go
  on_step s g (found.cdata_end t n) x y go =
      on_bare d N Q d' room fit E 0xF1 mode.Content (λ e. e) (eqb-true _ _ (coded (get_or d s.at 0) t.class_is)) (λ doc n q at a b. refl) refl
      (λ s' o i b. from_mode (point_of s') (is_cdata s'.mode ((alike_earlier o).sections ∙ t.may)) (cdata_end all_open all_nested d' room s'.here.elements s'.outer (point_of s') b)) go
  on_step s g (found.value t c e n) x y go = on_value d N Q d' room fit E short t c e go
  on_step s g (found.qname_value {number = number} t c e l h n) x y go =
      on_qname d N Q d' room fit E 0x8C after_value (λ e. e) (few x) (qname_code _ d s.at c t.class_is e) (λ doc n q at a b. refl) l h
      (record { outside = t.outside; may = value_may (view s) c t.may }) (λ m a. a.values)
      (λ s' σ G w n next a S b z.
      value all_open all_nested d' room s'.here.elements s'.outer s'.mode (a.declarations ∙ t.outside) (rw (a.contents, a.listings) (value_may (view s) c t.may)) (qname_value b XSD_QNAME z)) go
  on_step s g (found.attribute {number = number} t e n) x y go =
      let q = qname_found d (point_of s) (s.at + 1) e in
      on_qname d N Q d' room fit E 0xF6 (λ m. mode.Attributes) (λ e. e) (few x) refl (λ doc n q at a b. refl) q.positive q.defined
      (record { outside = t.outside; may = tag_or s.mode t.may }) (λ m a. refl)
      (λ s' σ G w n next a S b z.
      attribute all_open all_nested d' room s'.here.elements s'.outer s'.mode (point_of s') (a.declarations ∙ t.outside) (rw (a.tags, a.listings) t.may) b z) go
  on_step s g (found.element {number = number} t l e n) x y go =
      let q = qname_found d (point_of s) (s.at + 1) e in
      on_qname d N Q d' room fit E 0xF8 (λ m. mode.Tag) (λ e. e + 1) (few x) refl (λ doc n q at a b. refl) q.positive q.defined
      (record { outside = t.outside; may = content_or s.mode t.may }) (λ m a. refl)
      (λ s' σ G w n next a S b z.
      let i = around_elements d N Q d' S.outer in
      let j = S.here.elements in
      opens all_open all_nested d' room s'.here.elements s'.outer s'.mode (point_of s') (a.declarations ∙ t.outside) (a.contents ∙ t.may) (omega arith) b z) go
  on_step s g (found.close t n) x y go =
      on_bare d N Q d' room fit E 0xF7 mode.Content (λ e. e - 1) refl (λ doc n q at a b. refl) refl
      (λ s' o i b.
      let l : 0 < s.here.elements = ltb-true _ _ (and_right (content s.mode) _ t.may) in
      let a = alike_earlier o in
      closing (point_of s') s'.mode s'.here.elements s'.outer (omega arith)
      (closes all_open all_nested d' room (s'.here.elements - 1) s'.outer s'.mode (point_of s') (a.declarations ∙ t.outside) (a.contents ∙ and_left (content s.mode) _ t.may) b)) go
  on_step s g (found.pi {target = target} t a e n) x y go =
      on_pi d N Q d' room fit E (few x) (record { outside = t.outside; may = content_or s.mode t.may }) t.may (name_found d (point_of s) (s.at + 1) a).defined e go
  on_step s g (found.nest {version = version} t l e n) x y go =
      let h = (header_found d (s.at + 1) e).0 in
      on_nest d N Q d' room fit E version h.version_low h.version_high t.outside t.may l go
  on_step s g (found.leave t n) x y go =
      let a = and_left (content s.mode && ltb 0 (length s.outer)) _ t.may in
      on_leave d N Q d' room fit E s.outer refl t.outside (and_left (content s.mode) _ a) (ltb-true _ _ (and_right (content s.mode) _ a))
      (eqb-true _ _ (and_right (content s.mode && ltb 0 (length s.outer)) _ t.may)) go

  -- ---- all steps

  pub again : Ends (length d) (view u) → {s : State} (t : Trace d room s u) → Onward s (rest t)
  unfolding rest
  again e traces.none = on_end e
  again e (traces.by {s = s} x g i t) = on_step s g (found_step d (view s) room i) (only_added (traces.by x g i t)) (only_added t) (again e t)
