-- The laws of the canonical form (demand 2, second sentence): it is read again with the same events, is its own form, and
-- tells the events and the outer version. Assumes nothing.
use Prim.Native.Nat.{ℕ, zero, suc, ◌≤◌}
use mathlib.Core.Path.{◌≡◌, refl, sym, ◌∙◌, ap}
use mathlib.Core.Logic.{◌↔◌}
use mathlib.Core.Option.{Option, none, some}
use mathlib.Core.List.{List, [], ◌∷◌, map}
use lib.ListN.{take}
use Rattle.token.specs.Tokens.{accepted, name_rows, qname_rows}
use Rattle.scan.specs.declared.Room.{Room}
use Rattle.machine.specs.Machine.{EventRow, reading, events_of}
use Rattle.machine.specs.Balance.{Opened, nothing_open, taken, and_then, check}
use Rattle.form.specs.Canonical.{none_yet, body, canonical}
use Rattle.grammar.specs.Grammar.{Point, Depth, Document, document, Derives, rows_in, events_derived}
use Rattle.grammar.proofs.Unique.{at_most_one}
use Rattle.grammar.proofs.Exact.{accepted_derives, derived_accepts}
use Rattle.form_laws.specs.Forms.{events_read, form_read, Formed, ReadsAgain, Holds, ReadAlike}
use Rattle.form_laws.proofs.Lists.{clash}
use Rattle.form_laws.proofs.Written.{header_at}
use Rattle.form_laws.proofs.Reread.{reread}

header_versions : {d : List ℕ} {m : Depth} {version : ℕ} {s t : Point} → Document d m version s t → (1 ≤ version) × (version ≤ 2)
header_versions (document h x y z c) = (h.version_low, h.version_high)

-- the form is accepted with the same tables: the same events, tokens and outer version, and no more rows
pub read_again : (doc : List ℕ) (room : Room) → room.names ≤ name_rows → room.qnames ≤ qname_rows → Formed doc room → ReadsAgain doc room
unfolding canonical
read_again doc room n q F =
    let v = header_versions (accepted_derives doc room F.number_is).derived in
    let h = header_at (form_read doc room) 0 (reading doc room).version (body none_yet (events_read doc room)) v.0 v.1 refl in
    let r = reread doc (form_read doc room) room n q F.number_is F.not_long h.0 h.1 in
    record {
      number_is = r.number_is;
      version_is = r.version_is;
      events_are = r.events_are;
      tokens_are = r.tokens_are;
      names_few = r.names_few;
      qnames_few = r.qnames_few;
    }

-- the form is its own form
pub own_form : (doc : List ℕ) (room : Room) → room.names ≤ name_rows → room.qnames ≤ qname_rows → Formed doc room → form_read (form_read doc room) room ≡ form_read doc room
own_form doc room n q F = let r = read_again doc room n q F in rw (r.version_is, r.events_are)

-- an accepted document has the same events and outer version with any tables
pub any_room : (doc : List ℕ) (room room' : Room) → (reading doc room).number ≡ accepted → (reading doc room').number ≡ accepted
    → (events_read doc room ≡ events_read doc room') × ((reading doc room).version ≡ (reading doc room').version)
unfolding events_of
any_room doc room room' a b =
    let x = accepted_derives doc room a in
    let y = accepted_derives doc room' b in
    let e = at_most_one doc x.derived x.whole y.derived y.whole in
    let rows : rows_in (reading doc room).final ≡ rows_in (reading doc room').final = sym x.rows_are ∙ e.1 ∙ y.rows_are in
    (ap (events_derived doc) rows, e.0)

-- the tables of an accepted reading hold its rows
pub held : (doc : List ℕ) (room : Room) → (reading doc room).number ≡ accepted → Holds room (reading doc room).final
held doc room a =
    let x = accepted_derives doc room a in
    record { names_fit = x.names_few; qnames_fit = x.qnames_few; events_fit = x.events_few }

-- what is accepted with some tables is read alike with any that hold its rows
pub read_any : (doc : List ℕ) (room room' : Room) → (reading doc room).number ≡ accepted → Holds room' (reading doc room).final → ReadAlike doc room doc room'
read_any doc room room' a h =
    let x = accepted_derives doc room a in
    let y : Derives doc room' (reading doc room).version (rows_in (reading doc room).final) =
    record {
      deep = x.deep;
      end = x.end;
      derived = x.derived;
      whole = x.whole;
      rows_are = x.rows_are;
      not_long = x.not_long;
      elements_few = x.elements_few;
      nested_few = x.nested_few;
      names_few = h.names_fit;
      qnames_few = h.qnames_fit;
      events_few = h.events_fit;
    } in
    let b = (derived_accepts doc room' y).number_is in
    let e = any_room doc room room' a b in
    record { number_is = b; version_is = sym e.1; events_are = sym e.0 }

-- two forms are equal exactly where the events and the outer versions are
pub same_forms : (doc doc' : List ℕ) (room room' : Room) → room.names ≤ name_rows → room.qnames ≤ qname_rows → room'.names ≤ name_rows → room'.qnames ≤ qname_rows
    → Formed doc room → Formed doc' room'
    → (form_read doc room ≡ form_read doc' room') ↔ ((events_read doc room ≡ events_read doc' room') × ((reading doc room).version ≡ (reading doc' room').version))
same_forms doc doc' room room' n q n' q' F F' = (to, from)
  where
    to : form_read doc room ≡ form_read doc' room' → (events_read doc room ≡ events_read doc' room') × ((reading doc room).version ≡ (reading doc' room').version)
    to i =
        let a = read_again doc room n q F in
        let b = read_again doc' room' n' q' F' in
        let k : (reading (form_read doc room) room').number ≡ accepted = ap (λ (f : List ℕ). (reading f room').number) i ∙ b.number_is in
        let e = any_room (form_read doc room) room room' a.number_is k in (
          sym a.events_are ∙ e.0 ∙ ap (λ (f : List ℕ). events_read f room') i ∙ b.events_are,
          sym a.version_is ∙ e.1 ∙ ap (λ (f : List ℕ). (reading f room').version) i ∙ b.version_is,
        )

    from : (events_read doc room ≡ events_read doc' room') × ((reading doc room).version ≡ (reading doc' room').version) → form_read doc room ≡ form_read doc' room'
    from p = rw (p.0, p.1)

-- the checker of what is open looks at tokens alone
same_check : (k : ℕ) (l m : List EventRow) → map (λ (e : EventRow). e.token) l ≡ map (λ (e : EventRow). e.token) m → (b : Opened) → check b (take k l) ≡ check b (take k m)
same_check zero l m e b = refl
same_check (suc k) [] [] e b = refl
same_check (suc k) [] (y ∷ m) e b = clash (cc)
same_check (suc k) (x ∷ l) [] e b = clash (cc)
same_check (suc k) (x ∷ l) (y ∷ m) e b =
    let i : x.token ≡ y.token = cc in
    let j : map (λ (e : EventRow). e.token) l ≡ map (λ (e : EventRow). e.token) m = cc in
    rw i (go (taken y.token b) (λ c. same_check k l m j c))
  where
    go : (o : Option Opened) → ((c : Opened) → check c (take k l) ≡ check c (take k m)) → and_then (λ c. check c (take k l)) o ≡ and_then (λ c. check c (take k m)) o
    go none f = refl
    go (some c) f = f c

-- after as many events, the form has as much open as its source: no more elements, no more documents
pub opened_as : (doc : List ℕ) (room : Room) → room.names ≤ name_rows → room.qnames ≤ qname_rows → Formed doc room → (k : ℕ)
    → check nothing_open (take k (reading (form_read doc room) room).final.events) ≡ check nothing_open (take k (reading doc room).final.events)
opened_as doc room n q F k =
    same_check k (reading (form_read doc room) room).final.events (reading doc room).final.events (read_again doc room n q F).tokens_are nothing_open
