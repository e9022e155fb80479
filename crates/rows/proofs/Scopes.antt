-- The names and qnames of all open documents as one stack, and what returns after a nested document. Assumes nothing.
use Prim.Native.Nat.{ℕ, zero, suc, ◌+◌, ◌≤◌, ◌<◌}
use mathlib.Core.Path.{◌≡◌, refl, sym, ◌∙◌, ap}
use mathlib.Core.List.{List, [], ◌∷◌, ◌++◌, append_assoc}
use native.Mathlib.Omega.{arith}
use lib.ListN.{length, get_or, set, take, length-append}
use lib.Seq.{take-append_seam, take-suc-set, take-take, get_or-take, get_or-append-add}
use Rattle.sequences.specs.Arrays.{Front}
use Rattle.sequences.proofs.Overlay.{front_push, front_take, front_at}
use Rattle.machine.specs.Machine.{Scope, names_in, qnames_in, row_of}
use Rattle.rows.specs.Tables.{row_at}
use Rattle.rows.specs.declared.Frame.{Frame}

-- ---- stacks

-- one row more in the innermost document
pub pushed : (below rows stack : List ℕ) (row : ℕ) → length below + length rows < length stack → Front (below ++ rows) stack
    → Front (below ++ (rows ++ (row ∷ []))) (set stack (length below + length rows) row)
pushed below rows stack row h f =
    let e : length (below ++ rows) ≡ length below + length rows = length-append below rows in
    let l : length (below ++ rows) < length stack = omega arith in
    rw (← e, ← append_assoc) (front_push (below ++ rows) stack row l f)

-- the innermost document's rows are dropped
pub dropped : (below rows stack : List ℕ) → Front (below ++ rows) stack → Front below stack
dropped below rows stack f =
    let l : length below ≤ length (below ++ rows) = simp length-append (omega arith) in
    rw (take-append_seam below rows) at (front_take (below ++ rows) stack (length below) l f)

pub row_same : (below rows stack : List ℕ) (number : ℕ) → number ≤ length rows → Front (below ++ rows) stack
    → row_at stack (length below) number ≡ row_of rows number
row_same below rows stack zero h f = refl
row_same below rows stack (suc number) h f =
    let l : length below + number < length (below ++ rows) = simp length-append (omega arith) in
    front_at (below ++ rows) stack (length below + number) l f ∙ get_or-append-add below rows number 0

-- ---- frames, the outermost document's first

abbrev pub frame_of : Scope → List Scope → Frame
frame_of o os =
    record { base = length (names_in os); known = length o.names; qbase = length (qnames_in os); qknown = length o.qnames; elements = o.elements; version = o.version }

abbrev pub frames_of : List Scope → List Frame
frames_of [] = []
frames_of (o ∷ os) = frames_of os ++ (frame_of o os ∷ [])

-- the frames stand at the front of their array
abbrev pub Framed : List Scope → List Frame → Type 0
Framed os frames = take (length os) frames ≡ frames_of os

pub length_frames : (os : List Scope) → length (frames_of os) ≡ length os
length_frames [] = refl
length_frames (o ∷ os) = let i : length (frames_of os) ≡ length os = length_frames os in simp length-append (omega arith)

pub framed : (o : Scope) (os : List Scope) (frames : List Frame) → length os < length frames → Framed os frames
    → Framed (o ∷ os) (set frames (length os) (frame_of o os))
framed o os frames h f = rw (take-suc-set, f)

pub unframed : (o : Scope) (os : List Scope) (frames : List Frame) → Framed (o ∷ os) frames → Framed os frames
unframed o os frames f =
    let n = length_frames os in
    let h : length os ≤ suc (length os) = omega arith in
    sym (take-take (length os) (suc (length os)) frames h)
    ∙ ap (λ (x : List Frame). take (length os) x) f
    ∙ ap (λ (k : ℕ). take k (frames_of (o ∷ os))) (sym n)
    ∙ take-append_seam (frames_of os) (frame_of o os ∷ [])

-- the innermost frame
pub frame_at : (o : Scope) (os : List Scope) (frames : List Frame) (d : Frame) → Framed (o ∷ os) frames → get_or frames (length os) d ≡ frame_of o os
frame_at o os frames d f =
    let n = length_frames os in
    let h : length os < suc (length os) = omega arith in
    let e : length os ≡ length (frames_of os) + 0 = omega arith in
    sym (get_or-take (suc (length os)) frames (length os) d h)
    ∙ ap (λ (x : List Frame). get_or x (length os) d) f
    ∙ ap (λ (k : ℕ). get_or (frames_of (o ∷ os)) k d) e
    ∙ get_or-append-add (frames_of os) (frame_of o os ∷ []) 0 d
