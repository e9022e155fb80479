-- Serves the code. What a document of the form has defined, in regions of one array: at its base how many, and behind it for
-- each class its number or 0; then the trail, by which a region is cleared: the class defined last, and behind it for each
-- class the one defined before it.
use Rattle.std.specs.Prelude.{ℕ, zero, suc, ◌+◌, ◌*◌, ◌≤◌, ◌<◌, ◌≡◌, Bool, false, cond, List, eqb, length, get_or, set}
use Rattle.form_slots.specs.declared.Parts.{Parts}
use Rattle.classes.specs.Search.{class_at}
use Rattle.token.specs.Tokens.{qname_width, name_rows, nested_documents}
use Rattle.machine.specs.Tables.{class_count}

-- the numbers of one document's region, its trail included, and those of all: the outer document and 8 nested ones
abbrev pub region : ℕ
region = 2 * class_count

abbrev pub slot_count : ℕ
slot_count = 9 * region

-- what slots hold at most before a name, a qname and an item is defined
abbrev pub low_names : ℕ
low_names = 20000

abbrev pub low_qnames : ℕ
low_qnames = 19000

abbrev pub low_items : ℕ
low_items = 15000

-- a class that has to be defined; class 0 is the empty text
abbrev pub is_new : List ℕ → ℕ → ℕ → Bool
is_new slots base zero = false
is_new slots base (suc k) = eqb (get_or slots (base + suc k) 0) 0

-- the next number is given to a class
abbrev pub numbered : List ℕ → ℕ → ℕ → List ℕ
numbered slots base class = set (set slots base (get_or slots base 0 + 1)) (base + class) (get_or slots base 0 + 1)

-- and the class is put on the trail
unfoldable pub marked : List ℕ → ℕ → ℕ → List ℕ
marked slots base class =
    set (set (numbered slots base class) (base + class_count) class) ((base + class_count) + class) (get_or slots (base + class_count) 0)

unfoldable pub slots_after : List ℕ → ℕ → ℕ → List ℕ
slots_after slots base class = cond (is_new slots base class) (marked slots base class) slots

abbrev pub number_in : List ℕ → ℕ → ℕ → ℕ
number_in slots base zero = 0
number_in slots base (suc k) = get_or slots (base + suc k) 0

-- ---- qnames

-- the classes of a qname's three names
abbrev pub parts_at : List ℕ → List ℕ → ℕ → Parts
parts_at qnames classes k =
    record {
      uri = record { 0 = class_at classes (get_or qnames (qname_width * k) 0) };
      prefix = record { 0 = class_at classes (get_or qnames (qname_width * k + 1) 0) };
      local = record { 0 = class_at classes (get_or qnames (qname_width * k + 2) 0) };
    }

-- ---- bounds

-- each number is at most so much
pub record Low (most : ℕ) (slots : List ℕ) : Type 0 where
  pub long : length slots ≡ slot_count
  pub each : (k : ℕ) → get_or slots k 0 ≤ most

pub record PartsFit (rows : ℕ) (q : Parts) : Type 0 where
  pub uri_in : q.uri.0 ≤ rows
  pub prefix_in : q.prefix.0 ≤ rows
  pub local_in_fact : q.local.0 ≤ rows

-- the 1,025 numbers from a base on are 0, the others as they were
pub record Cleared (before after : List ℕ) (base : ℕ) : Type 0 where
  pub long : length after ≡ length before
  pub inside : (k : ℕ) → base ≤ k → k < base + class_count → get_or after k 0 ≡ 0
  pub under : (k : ℕ) → k < base → get_or after k 0 ≡ get_or before k 0
  pub over : (k : ℕ) → base + class_count ≤ k → get_or after k 0 ≡ get_or before k 0

-- ---- the trail

-- a class has this number
pub record Numbered (slots : List ℕ) (base class n : ℕ) : Type 0 where
  pub from : 1 ≤ class
  pub to : class ≤ name_rows
  pub number : get_or slots (base + class) 0 ≡ n

-- each class has its own number, up to the count; the trail leads from the last class to the first
pub record Trail (slots : List ℕ) (base : ℕ) : Type 0 where
  pub most : (class : ℕ) → 1 ≤ class → class ≤ name_rows → get_or slots (base + class) 0 ≤ get_or slots base 0
  pub last : 1 ≤ get_or slots base 0 → Numbered slots base (get_or slots (base + class_count) 0) (get_or slots base 0)
  pub previous : (class n : ℕ) → 1 ≤ n → Numbered slots base class (suc n) → Numbered slots base (get_or slots ((base + class_count) + class) 0) n
  pub one : (class other n : ℕ) → 1 ≤ n → Numbered slots base class n → Numbered slots base other n → class ≡ other

-- the regions of all documents that may be open
abbrev pub Trails : List ℕ → Type 0
Trails slots = (d : ℕ) → d ≤ nested_documents → Trail slots (region * d)
