-- A step keeps what holds between the machine's state and the code's tables. Assumes nothing.
use Prim.Native.Nat.{ℕ, suc, ◌+◌, ◌-◌, ◌*◌, ◌≤◌, ◌<◌}
use mathlib.Core.Path.{◌≡◌, refl, ◌∙◌, ap}
use mathlib.Core.List.{List, [], ◌∷◌, ◌++◌, append-nil}
use native.Mathlib.Nat.{add-zero}
use native.Mathlib.Numerals.{add-one}
use native.Mathlib.Omega.{arith}
use lib.ListN.{length, get_or, length-append, length-set, length-drop, drop}
use Rattle.sequences.specs.Lists.{overlay}
use Rattle.sequences.specs.Arrays.{Front}
use Rattle.scan.specs.Bounds.{Fine}
use Rattle.modes.specs.Modes.{after_misc}
use Rattle.modes.specs.declared.Mode.{Mode}
use Rattle.modes.specs.declared.Mode.TheVariants.{Content, Tag}
use Rattle.modes.specs.declared.View.{View}
use Rattle.scan.specs.declared.Room.{Room}
use Rattle.scan.specs.declared.Step.{Step}
use Rattle.scan.specs.declared.Step.TheVariants as step
use Rattle.machine.specs.Machine.{event, flat_names, flat_qnames, flat_events, Scope, scope, State, view, names_in, qnames_in, elements_in, row_of, onward, returned, apply}
use Rattle.token.specs.declared.NameNumber.{NameNumber}
use Rattle.token.specs.declared.QnameNumber.{QnameNumber}
use Rattle.token.specs.Tokens.{qname_width, event_width}
use Rattle.rows.specs.declared.Stacks.{Stacks}
use Rattle.rows.specs.Tables.{Tables, put2, put4, no_frame, tables_after, Turned, Held}
use Rattle.rows.proofs.Puts.{names_put, qnames_put, events_put}
use Rattle.machine.proofs.Rows.{length_names, length_qnames, length_events}
use Rattle.rows.proofs.Scopes.{pushed, dropped, row_same, Framed, frame_of, framed, unframed, frame_at}
use Rattle.machine.proofs.Goes.{Goes}

-- the tables hold the rows completed, and the stacks the rows of the open documents
pub record Stored (n₀ q₀ e₀ : List ℕ) (s : State) (t : Tables) : Type 0 where
  pub names_are : t.names ≡ overlay (flat_names s.names) n₀
  pub qnames_are : t.qnames ≡ overlay (flat_qnames s.qnames) q₀
  pub events_are : t.events ≡ overlay (flat_events s.events) e₀
  pub stack_is : Front (names_in s.outer ++ s.here.names) t.stacks.names
  pub qstack_is : Front (qnames_in s.outer ++ s.here.qnames) t.stacks.qnames
  pub frames_are : Framed s.outer t.stacks.frames

-- a step changes no table's length
pub record SameLengths (t t' : Tables) : Type 0 where
  pub names : length t'.names ≡ length t.names
  pub qnames : length t'.qnames ≡ length t.qnames
  pub events : length t'.events ≡ length t.events
  pub stack : length t'.stacks.names ≡ length t.stacks.names
  pub qstack : length t'.stacks.qnames ≡ length t.stacks.qnames
  pub frames : length t'.stacks.frames ≡ length t.stacks.frames

lengths_after : (t : Tables) (v : View) (s : Step) → SameLengths t (tables_after t v s)
lengths_after t v (step.End place) = record { names = refl; qnames = refl; events = refl; stack = refl; qstack = refl; frames = refl }
lengths_after t v (step.Name place units next) =
    record { names = simp length-set; qnames = refl; events = refl; stack = simp length-set; qstack = refl; frames = refl }
lengths_after t v (step.Qname uri prefix local next) =
    record { names = refl; qnames = simp length-set; events = refl; stack = refl; qstack = simp length-set; frames = refl }
lengths_after t v (step.Skip next) = record { names = refl; qnames = refl; events = refl; stack = refl; qstack = refl; frames = refl }
lengths_after t v (step.Flush next) = record { names = refl; qnames = refl; events = refl; stack = refl; qstack = refl; frames = refl }
lengths_after t v (step.Event token a b mode next) = record { names = refl; qnames = refl; events = simp length-set; stack = refl; qstack = refl; frames = refl }
lengths_after t v (step.Refer token number mode next) =
    record { names = refl; qnames = refl; events = simp length-set; stack = refl; qstack = refl; frames = refl }
lengths_after t v (step.Open number next) = record { names = refl; qnames = refl; events = simp length-set; stack = refl; qstack = refl; frames = refl }
lengths_after t v (step.Pi target start next) = record { names = refl; qnames = refl; events = simp length-set; stack = refl; qstack = refl; frames = refl }
lengths_after t v (step.Close next) = record { names = refl; qnames = refl; events = simp length-set; stack = refl; qstack = refl; frames = refl }
lengths_after t v (step.Nest version next) =
    record { names = refl; qnames = refl; events = simp length-set; stack = refl; qstack = refl; frames = simp length-set }
lengths_after t v (step.Leave next) = record { names = refl; qnames = refl; events = simp length-set; stack = refl; qstack = refl; frames = refl }

pub same_lengths : {t t' : Tables} {v : View} {s : Step} {r : View} → Turned t t' v s r → SameLengths t t'
same_lengths {t} {t'} {v} {s} w =
    let l = lengths_after t v s in
    record {
      names = ap length w.names_are ∙ l.names;
      qnames = ap length w.qnames_are ∙ l.qnames;
      events = ap length w.events_are ∙ l.events;
      stack = ap (λ (x : Stacks). length x.names) w.stacks_are ∙ l.stack;
      qstack = ap (λ (x : Stacks). length x.qnames) w.stacks_are ∙ l.qstack;
      frames = ap (λ (x : Stacks). length x.frames) w.stacks_are ∙ l.frames;
    }

-- what is longer than what was laid over a table lies inside the table
longer : (front l : List ℕ) (m : ℕ) → length front < m → m ≤ length (overlay front l) → m ≤ length l
longer front l m a b = let e = length-append front (drop (length front) l) in let d = length-drop (length front) l in omega arith

-- after a step: the same holds of the next state, and the code's view is the state's
pub record Kept (n₀ q₀ e₀ : List ℕ) (size : ℕ) (room : Room) (s : State) (t : Tables) (v : View) : Type 0 where
  pub stored : Stored n₀ q₀ e₀ s t
  pub held : Held size room t (view s)
  pub seen : v ≡ view s

module _ {n₀ q₀ e₀ : List ℕ} {s : State} {t : Tables} {size : ℕ} {room : Room} (i : Stored n₀ q₀ e₀ s t) (h : Held size room t (view s)) where
  -- the lent tables have room for one row more
  names_fit : length s.names < room.names → 2 * length s.names + 2 ≤ length n₀
  names_fit f =
      let n = length_names s.names in
      let r = h.names_room in
      let e : length t.names ≡ length (overlay (flat_names s.names) n₀) = ap length i.names_are in
      longer (flat_names s.names) n₀ (2 * length s.names + 2) (omega arith) (omega arith)

  qnames_fit : length s.qnames < room.qnames → qname_width * length s.qnames + 3 ≤ length q₀
  qnames_fit f =
      let n = length_qnames s.qnames in
      let r = h.qnames_room in
      let e : length t.qnames ≡ length (overlay (flat_qnames s.qnames) q₀) = ap length i.qnames_are in
      longer (flat_qnames s.qnames) q₀ (qname_width * length s.qnames + 3) (omega arith) (omega arith)

  events_fit : length s.events < room.events → event_width * length s.events + 4 ≤ length e₀
  events_fit f =
      let n = length_events s.events in
      let r = h.events_room in
      let e : length t.events ≡ length (overlay (flat_events s.events) e₀) = ap length i.events_are in
      longer (flat_events s.events) e₀ (event_width * length s.events + 4) (omega arith) (omega arith)

  -- an event's row
  event_stored : (token a b : ℕ) → length s.events < room.events
      → put4 t.events (length s.events) token s.at a b ≡ overlay (flat_events (s.events ++ (event token s.at a b ∷ []))) e₀
  event_stored token a b f =
      ap (λ (l : List ℕ). put4 l (length s.events) token s.at a b) i.events_are
      ∙ events_put s.events e₀ token s.at a b (events_fit f)

  -- a step that adds an event and leaves the open documents' names as they are
  with_event : {t' : Tables} (token a b : ℕ) (mode : Mode) (elements next : ℕ) → length s.events < room.events
      → t'.names ≡ t.names → t'.qnames ≡ t.qnames → t'.events ≡ put4 t.events (length s.events) token s.at a b
      → t'.stacks ≡ t.stacks
      → Stored n₀ q₀ e₀ (onward s (event token s.at a b) mode (scope s.here.version s.here.names s.here.qnames elements) next) t'
  with_event token a b mode elements next f en eq ee es =
      record {
        names_are = en ∙ i.names_are;
        qnames_are = eq ∙ i.qnames_are;
        events_are = ee ∙ event_stored token a b f;
        stack_is = rw es i.stack_is;
        qstack_is = rw es i.qstack_is;
        frames_are = rw es i.frames_are;
      }

  module _ {t' : Tables} {r : View} where
    keep_name : (place units next : ℕ) → Fine size (view s) room (step.Name place units next) → Turned t t' (view s) (step.Name place units next) r
        → Kept n₀ q₀ e₀ size room (apply s (step.Name place units next)) t' r
    keep_name place units next f w =
        let l = same_lengths w in
        let b = length-append (names_in s.outer) s.here.names in
        let top : length (names_in s.outer) + length s.here.names < length t.stacks.names = omega arith in
        record {
          stored =
              record {
                names_are = w.names_are ∙ ap (λ (x : List ℕ). put2 x (length s.names) place units) i.names_are ∙ names_put s.names n₀ place units (names_fit f.3);
                qnames_are = w.qnames_are ∙ i.qnames_are;
                events_are = w.events_are ∙ i.events_are;
                stack_is = rw w.stacks_are (pushed (names_in s.outer) s.here.names t.stacks.names (length s.names + 1) top i.stack_is);
                qstack_is = rw w.stacks_are i.qstack_is;
                frames_are = rw w.stacks_are i.frames_are;
              };
          held = simp length-append (omega arith);
          seen = w.view_is ∙ simp length-append;
        }

    keep_qname : (uri prefix local : NameNumber) (next : ℕ) → Fine size (view s) room (step.Qname uri prefix local next)
        → Turned t t' (view s) (step.Qname uri prefix local next) r → Kept n₀ q₀ e₀ size room (apply s (step.Qname uri prefix local next)) t' r
    keep_qname uri prefix local next f w =
        let l = same_lengths w in
        let b = length-append (qnames_in s.outer) s.here.qnames in
        let top : length (qnames_in s.outer) + length s.here.qnames < length t.stacks.qnames = omega arith in
        let u = row_same (names_in s.outer) s.here.names t.stacks.names uri.0 f.2 i.stack_is in
        let p = row_same (names_in s.outer) s.here.names t.stacks.names prefix.0 f.3 i.stack_is in
        let o = row_same (names_in s.outer) s.here.names t.stacks.names local.0 f.4 i.stack_is in
        record {
          stored =
              record {
                names_are = w.names_are ∙ i.names_are;
                qnames_are = w.qnames_are ∙ rw (i.qnames_are, u, p, o) (qnames_put s.qnames q₀ _ _ _ (qnames_fit f.5));
                events_are = w.events_are ∙ i.events_are;
                stack_is = rw w.stacks_are i.stack_is;
                qstack_is = rw w.stacks_are (pushed (qnames_in s.outer) s.here.qnames t.stacks.qnames (length s.qnames + 1) top i.qstack_is);
                frames_are = rw w.stacks_are i.frames_are;
              };
          held = simp length-append (omega arith);
          seen = w.view_is ∙ simp length-append;
        }

    keep_skip : (next : ℕ) → Fine size (view s) room (step.Skip next) → Turned t t' (view s) (step.Skip next) r
        → Kept n₀ q₀ e₀ size room (apply s (step.Skip next)) t' r
    keep_skip next f w =
        let l = same_lengths w in
        record {
          stored =
              record {
                names_are = w.names_are ∙ i.names_are;
                qnames_are = w.qnames_are ∙ i.qnames_are;
                events_are = w.events_are ∙ i.events_are;
                stack_is = rw w.stacks_are i.stack_is;
                qstack_is = rw w.stacks_are i.qstack_is;
                frames_are = rw w.stacks_are i.frames_are;
              };
          held = omega arith;
          seen = w.view_is;
        }

    keep_flush : (next : ℕ) → Fine size (view s) room (step.Flush next) → Turned t t' (view s) (step.Flush next) r
        → Kept n₀ q₀ e₀ size room (apply s (step.Flush next)) t' r
    keep_flush next f w =
        let l = same_lengths w in
        record {
          stored =
              record {
                names_are = w.names_are ∙ i.names_are;
                qnames_are = w.qnames_are ∙ i.qnames_are;
                events_are = w.events_are ∙ i.events_are;
                stack_is = rw (w.stacks_are, append-nil) (dropped (names_in s.outer) s.here.names t.stacks.names i.stack_is);
                qstack_is = rw (w.stacks_are, append-nil) (dropped (qnames_in s.outer) s.here.qnames t.stacks.qnames i.qstack_is);
                frames_are = rw w.stacks_are i.frames_are;
              };
          held = omega arith;
          seen = w.view_is;
        }

    keep_event : (token a b : ℕ) (mode : Mode) (next : ℕ) → Fine size (view s) room (step.Event token a b mode next)
        → Turned t t' (view s) (step.Event token a b mode next) r → Kept n₀ q₀ e₀ size room (apply s (step.Event token a b mode next)) t' r
    keep_event token a b mode next f w =
        let l = same_lengths w in
        record {
          stored =
              with_event token a b mode s.here.elements next f.4 w.names_are w.qnames_are w.events_are w.stacks_are;
          held = simp length-append (omega arith);
          seen = w.view_is ∙ simp length-append;
        }

    keep_refer : (token : ℕ) (number : QnameNumber) (mode : Mode) (next : ℕ) → Fine size (view s) room (step.Refer token number mode next)
        → Turned t t' (view s) (step.Refer token number mode next) r → Kept n₀ q₀ e₀ size room (apply s (step.Refer token number mode next)) t' r
    keep_refer token number mode next f w =
        let l = same_lengths w in
        let e = row_same (qnames_in s.outer) s.here.qnames t.stacks.qnames number.0 f.3 i.qstack_is in
        record {
          stored =
              with_event token (row_of s.here.qnames number.0) 0 mode s.here.elements next f.4 w.names_are w.qnames_are
              (w.events_are ∙ rw e) w.stacks_are;
          held = simp length-append (omega arith);
          seen = w.view_is ∙ simp length-append;
        }

    keep_open : (number : QnameNumber) (next : ℕ) → Fine size (view s) room (step.Open number next) → Turned t t' (view s) (step.Open number next) r
        → Kept n₀ q₀ e₀ size room (apply s (step.Open number next)) t' r
    keep_open number next f w =
        let l = same_lengths w in
        let e = row_same (qnames_in s.outer) s.here.qnames t.stacks.qnames number.0 f.3 i.qstack_is in
        let o : elements_in s.outer + s.here.elements + 1 ≡ elements_in s.outer + (s.here.elements + 1) = omega arith in
        record {
          stored =
              with_event 0xF8 (row_of s.here.qnames number.0) 0 Tag (s.here.elements + 1) next f.5 w.names_are w.qnames_are
              (w.events_are ∙ rw e) w.stacks_are;
          held = simp length-append (omega arith);
          seen = w.view_is ∙ simp (length-append, o);
        }

    keep_pi : (target : NameNumber) (start next : ℕ) → Fine size (view s) room (step.Pi target start next)
        → Turned t t' (view s) (step.Pi target start next) r → Kept n₀ q₀ e₀ size room (apply s (step.Pi target start next)) t' r
    keep_pi target start next f w =
        let l = same_lengths w in
        let e = row_same (names_in s.outer) s.here.names t.stacks.names target.0 f.2 i.stack_is in
        record {
          stored =
              with_event 0xF4 (row_of s.here.names target.0) start (after_misc s.mode) s.here.elements next f.4 w.names_are
              w.qnames_are (w.events_are ∙ rw e) w.stacks_are;
          held = simp length-append (omega arith);
          seen = w.view_is ∙ simp length-append;
        }

    keep_close : (next : ℕ) → Fine size (view s) room (step.Close next) → Turned t t' (view s) (step.Close next) r
        → Kept n₀ q₀ e₀ size room (apply s (step.Close next)) t' r
    keep_close next f w =
        let l = same_lengths w in
        let o : elements_in s.outer + s.here.elements - 1 ≡ elements_in s.outer + (s.here.elements - 1) = omega arith in
        record {
          stored =
              with_event 0xF7 0 0 Content (s.here.elements - 1) next f.3 w.names_are w.qnames_are w.events_are w.stacks_are;
          held = simp length-append (omega arith);
          seen = w.view_is ∙ simp (length-append, o);
        }

    keep_nest : (version next : ℕ) → Fine size (view s) room (step.Nest version next) → Turned t t' (view s) (step.Nest version next) r
        → Kept n₀ q₀ e₀ size room (apply s (step.Nest version next)) t' r
    keep_nest version next f w =
        let l = same_lengths w in
        let k : length s.outer < length t.stacks.frames = omega arith in
        record {
          stored =
              record {
                names_are = w.names_are ∙ i.names_are;
                qnames_are = w.qnames_are ∙ i.qnames_are;
                events_are = w.events_are ∙ event_stored 0xEC version 0 f.5;
                stack_is = rw (w.stacks_are, append-nil) i.stack_is;
                qstack_is = rw (w.stacks_are, append-nil) i.qstack_is;
                frames_are = rw w.stacks_are (framed s.here s.outer t.stacks.frames k i.frames_are);
              };
          held = simp length-append (omega arith);
          seen = w.view_is ∙ simp (length-append, add-zero, add-one);
        }

    -- a nested document ends: the parent's frame is the innermost
    module _ (o : Scope) (os : List Scope) (e : s.outer ≡ o ∷ os) where
      keep_parent : (next : ℕ) → Fine size (view s) room (step.Leave next) → Turned t t' (view s) (step.Leave next) r
          → Kept n₀ q₀ e₀ size room (returned s (o ∷ os) next) t' r
      keep_parent next f w =
          let l = same_lengths w in
          let ln : length (names_in s.outer) ≡ length (names_in os) + length o.names = rw e (length-append (names_in os) o.names) in
          let lq : length (qnames_in s.outer) ≡ length (qnames_in os) + length o.qnames = rw e (length-append (qnames_in os) o.qnames) in
          let le : elements_in s.outer ≡ elements_in os + o.elements = rw e in
          let ld : length s.outer ≡ suc (length os) = ap length e in
          let d : length s.outer - 1 ≡ length os = omega arith in
          let eo : elements_in s.outer + s.here.elements ≡ elements_in os + o.elements = omega arith in
          let fr : Framed (o ∷ os) t.stacks.frames = rw e at i.frames_are in
          let p : get_or t.stacks.frames (length os) no_frame ≡ frame_of o os = frame_at o os t.stacks.frames no_frame fr in
          record {
            stored =
                record {
                  names_are = w.names_are ∙ i.names_are;
                  qnames_are = w.qnames_are ∙ i.qnames_are;
                  events_are = w.events_are ∙ event_stored 0xEB 0 0 f.4;
                  stack_is = rw w.stacks_are (rw e at (dropped (names_in s.outer) s.here.names t.stacks.names i.stack_is));
                  qstack_is = rw w.stacks_are (rw e at (dropped (qnames_in s.outer) s.here.qnames t.stacks.qnames i.qstack_is));
                  frames_are = rw w.stacks_are (unframed o os t.stacks.frames fr);
                };
            held = simp length-append (omega arith);
            seen = w.view_is ∙ simp (length-append, d, p, eo);
          }

    keep_leave : (next : ℕ) → Fine size (view s) room (step.Leave next) → Turned t t' (view s) (step.Leave next) r
        → Kept n₀ q₀ e₀ size room (apply s (step.Leave next)) t' r
    keep_leave next f w = go s.outer (λ o os e. keep_parent o os e next f w) refl
      where
        go : (os : List Scope) → ((o : Scope) (rest : List Scope) → s.outer ≡ o ∷ rest → Kept n₀ q₀ e₀ size room (returned s (o ∷ rest) next) t' r)
            → s.outer ≡ os → Kept n₀ q₀ e₀ size room (returned s os next) t' r
        go [] k e = absurd (let d : length s.outer ≡ 0 = ap length e in let q : ⊥ = omega arith in q)
        go (o ∷ os) k e = k o os e

    -- every step but the one that stops
    pub keep : (x : Step) → Goes x → Fine size (view s) room x → Turned t t' (view s) x r → Kept n₀ q₀ e₀ size room (apply s x) t' r
    keep (step.End place) g f w = absurd g
    keep (step.Name place units next) g f w = keep_name place units next f w
    keep (step.Qname uri prefix local next) g f w = keep_qname uri prefix local next f w
    keep (step.Skip next) g f w = keep_skip next f w
    keep (step.Flush next) g f w = keep_flush next f w
    keep (step.Event token a b mode next) g f w = keep_event token a b mode next f w
    keep (step.Refer token number mode next) g f w = keep_refer token number mode next f w
    keep (step.Open number next) g f w = keep_open number next f w
    keep (step.Pi target start next) g f w = keep_pi target start next f w
    keep (step.Close next) g f w = keep_close next f w
    keep (step.Nest version next) g f w = keep_nest version next f w
    keep (step.Leave next) g f w = keep_leave next f w
