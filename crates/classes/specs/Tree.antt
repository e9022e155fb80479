-- Serves the code. The tree in which the first row of each value stands: a place for each slot of the value's hash, and two below
-- each row, for the bits of the hash. Places hold rows, or 1,024 for none.
use Rattle.std.specs.Prelude.{ℕ, ◌+◌, ◌*◌, ◌/◌, ◌%◌, ◌≤◌, ◌<◌, ◌≡◌, Bool, true, List, length, get_or}
use Rattle.token.specs.Tokens.{name_rows}

-- the slots, a prime number, and all places
abbrev pub hash_slots : ℕ
hash_slots = 2039

abbrev pub tree_places : ℕ
tree_places = hash_slots + 2 * name_rows

-- the first n numbers of an array are those of f
abbrev pub FirstAre : (ℕ → ℕ) → ℕ → List ℕ → Type 0
FirstAre f n l = (k : ℕ) → k < n → get_or l k 0 ≡ f k

-- the place below row j for a hash, of which x is left
abbrev pub below : ℕ → ℕ → ℕ
below j x = hash_slots + 2 * j + x % 2

-- a row with value a is met on the way down from place p, where x is left of the hash
pub data Met {A : Type 0} (m : ℕ → A) (tree : List ℕ) (a : A) : ℕ → ℕ → Type 0 where
  there : {p x : ℕ} → get_or tree p 0 < name_rows → m (get_or tree p 0) ≡ a → Met m tree a p x
  down : {p x : ℕ} → get_or tree p 0 < name_rows → Met m tree a (below (get_or tree p 0) x) (x / 2) → Met m tree a p x

-- the same from the slot of the value's hash
abbrev pub Stands : {A : Type 0} → (A → ℕ) → (ℕ → A) → List ℕ → A → Type 0
Stands hash m tree a = Met m tree a (hash a % hash_slots) (hash a)

-- the tree of the first n rows, of which m gives the values: rows below another come after it
pub record Tree {A : Type 0} (hash : A → ℕ) (m : ℕ → A) (n : ℕ) (tree : List ℕ) : Type 0 where
  pub long : length tree ≡ tree_places
  pub within : (p : ℕ) → p < tree_places → get_or tree p 0 ≤ name_rows
  pub before : (p : ℕ) → p < tree_places → get_or tree p 0 < name_rows → get_or tree p 0 < n
  pub after : (j x : ℕ) → j < name_rows → j < get_or tree (below j x) 0
  pub each : (k : ℕ) → k < n → Stands hash m tree (m k)

-- what the way down needs of a tree of the first n rows
pub record Shaped (n : ℕ) (tree : List ℕ) : Type 0 where
  pub held : (p : ℕ) → p < tree_places → get_or tree p 0 ≤ name_rows
  pub earlier : (p : ℕ) → p < tree_places → get_or tree p 0 < name_rows → get_or tree p 0 < n
  pub deeper : (j x : ℕ) → j < name_rows → j < get_or tree (below j x) 0

-- a test's results tell which rows before row r have its value
abbrev pub TellsRow : (ℕ → Bool → Type 0) → (ℕ → List ℕ) → ℕ → Type 0
TellsRow test m r = (j : ℕ) (b : Bool) → j < r → test j b → (b ≡ true → m j ≡ m r) × (m j ≡ m r → b ≡ true)

-- what stands in one tree stands in the other
abbrev pub Kept : List ℕ → List ℕ → Type 0
Kept tree tree' = (p : ℕ) → get_or tree p 0 < name_rows → get_or tree' p 0 ≡ get_or tree p 0

-- p is the place for the value of row r: a row there has it, where none is there no row before r has it, and a row with that value
-- that is put there is met
pub record Spot {A : Type 0} (hash : A → ℕ) (m : ℕ → A) (r : ℕ) (tree : List ℕ) (p : ℕ) : Type 0 where
  pub inside : p < hash_slots + 2 * r
  pub has : get_or tree p 0 < name_rows → m (get_or tree p 0) ≡ m r
  pub none : name_rows ≤ get_or tree p 0 → (k : ℕ) → k < r → m k ≡ m r → ⊥
  pub lands : (tree' : List ℕ) → Kept tree tree' → get_or tree' p 0 < name_rows → m (get_or tree' p 0) ≡ m r → Stands hash m tree' (m r)
