-- The sequential specification of the one-key calls: what each answers and changes, where it runs alone.
use Rattle.std.specs.Prelude.{◌≡◌, ℕ, ◌+◌, Bool, List, [], ◌∷◌, ◌++◌, length, Option, Some, None, if◌then◌else◌, MatchOption, MatchBool}

-- What is in a map: every pair that was stored so far, in the order of their numbers from 1 on, and the finite map,
-- from keys to the number of the pair of the key's class. Keys that eq calls equal form a class.
pub record Contents (K V : Type 0) : Type 0 where
  pub stored : List (K × V)
  pub at : K → Option ℕ

pub data OneKeyCall (K V : Type 0) : Type 0 where
  Get : K → OneKeyCall K V
  GetKeyValue : K → OneKeyCall K V
  ContainsKey : K → OneKeyCall K V
  Insert : K → V → OneKeyCall K V
  TryInsert : K → V → OneKeyCall K V
  TryInsertWith : K → OneKeyCall K V
  GetOrInsert : K → V → OneKeyCall K V
  GetOrInsertWith : K → OneKeyCall K V
  Update : K → OneKeyCall K V
  UpdateOrInsert : K → V → OneKeyCall K V
  UpdateOrInsertWith : K → OneKeyCall K V
  Compute : K → OneKeyCall K V
  Remove : K → OneKeyCall K V
  RemoveEntry : K → OneKeyCall K V
  RemoveIf : K → OneKeyCall K V

-- what a closure answered
pub data Reply (V T : Type 0) : Type 0 where
  Gives : V → Reply V T  -- this value, to be stored
  Removes : Reply V T
  Aborts : T → Reply V T
  Decides : Bool → Reply V T  -- whether to remove

-- what a call answers, of pairs their numbers
pub data CallAnswer (V T : Type 0) : Type 0 where
  Nothing : CallAnswer V T  -- the class has no pair
  There : ℕ → CallAnswer V T  -- this pair: found, replaced or removed
  Fresh : ℕ → CallAnswer V T  -- this pair, which the call stored
  Kept : ℕ → CallAnswer V T  -- an error: this pair is there, and stays
  Occupied : ℕ → V → CallAnswer V T  -- the same, and the value that was not inserted
  Updated : ℕ → ℕ → CallAnswer V T  -- the first pair was replaced by the second
  Removed : ℕ → CallAnswer V T
  Aborted : T → CallAnswer V T

-- the last reply of the call's closure to none, and to the pair of each number
abbrev pub Replies : Type 0 → Type 0 → Type 0
Replies V T = Option ℕ → Option (Reply V T)

module _ {K V : Type 0} where
  -- the number of the pair that is stored next
  abbrev pub next_number : Contents K V → ℕ
  next_number m = length m.stored + 1

  abbrev pub IsUnchanged : Contents K V → Contents K V → Type 0
  IsUnchanged m n = (n.stored ≡ m.stored) × ((q : K) → n.at q ≡ m.at q)

module _ {K V : Type 0} (eq : K → K → Bool) where
  -- a new pair holds the key handed in, is the pair of that key's class from now on, and no other class has another pair
  abbrev pub Stores : K → V → Contents K V → Contents K V → Type 0
  Stores k v m n = (n.stored ≡ m.stored ++ (k, v) ∷ []) × ((q : K) → n.at q ≡ (if eq k q then Some (next_number m) else m.at q))

  -- the key's class has no pair any more, and no other class has another pair
  abbrev pub Clears : K → Contents K V → Contents K V → Type 0
  Clears k m n = (n.stored ≡ m.stored) × ((q : K) → n.at q ≡ (if eq k q then None else m.at q))

-- the answer where the pair of the key's class is this one, or there is none
abbrev pub looked : {V T : Type 0} → Option ℕ → CallAnswer V T
looked None = Nothing
looked (Some p) = There p

module _ {K V T : Type 0} (eq : K → K → Bool) where
  -- the value of a reply is stored
  abbrev pub StoresReply : K → Option (Reply V T) → Contents K V → Contents K V → Type 0
  StoresReply k reply m n = (v : V) × (reply ≡ Some (Gives v)) × Stores eq k v m n

  -- `compute`, by the pair of the key's class and the reply to it
  abbrev pub Computes : K → Option ℕ → Option (Reply V T) → Contents K V → CallAnswer V T → Contents K V → Type 0
  Computes k None (Some (Gives v)) m a n = Stores eq k v m n × (a ≡ Fresh (next_number m))
  Computes k (Some p) (Some (Gives v)) m a n = Stores eq k v m n × (a ≡ Updated p (next_number m))
  Computes k (Some p) (Some Removes) m a n = Clears eq k m n × (a ≡ Removed p)
  Computes k p (Some (Aborts t)) m a n = IsUnchanged m n × (a ≡ Aborted t)
  Computes k p _ m a n = ⊥

  -- the call, with these replies of its closure, turns the contents m into n and answers a
  abbrev pub Specifies : OneKeyCall K V → Replies V T → Contents K V → CallAnswer V T → Contents K V → Type 0
  Specifies (Get k) replies m a n = IsUnchanged m n × (a ≡ looked (m.at k))
  Specifies (GetKeyValue k) replies m a n = IsUnchanged m n × (a ≡ looked (m.at k))
  Specifies (ContainsKey k) replies m a n = IsUnchanged m n × (a ≡ looked (m.at k))
  Specifies (Insert k v) replies m a n = Stores eq k v m n × (a ≡ looked (m.at k))
  Specifies (TryInsert k v) replies m a n =
      MatchOption (m.at k) (Stores eq k v m n × (a ≡ Fresh (next_number m))) (λ p. IsUnchanged m n × (a ≡ Occupied p v))
  Specifies (TryInsertWith k) replies m a n =
      MatchOption (m.at k) (StoresReply k (replies None) m n × (a ≡ Fresh (next_number m))) (λ p. IsUnchanged m n × (a ≡ Kept p))
  Specifies (GetOrInsert k v) replies m a n =
      MatchOption (m.at k) (Stores eq k v m n × (a ≡ Fresh (next_number m))) (λ p. IsUnchanged m n × (a ≡ There p))
  Specifies (GetOrInsertWith k) replies m a n =
      MatchOption (m.at k) (StoresReply k (replies None) m n × (a ≡ Fresh (next_number m))) (λ p. IsUnchanged m n × (a ≡ There p))
  Specifies (Update k) replies m a n =
      MatchOption (m.at k) (IsUnchanged m n × (a ≡ Nothing)) (λ p. StoresReply k (replies (Some p)) m n × (a ≡ Fresh (next_number m)))
  Specifies (UpdateOrInsert k v) replies m a n =
      MatchOption (m.at k) (Stores eq k v m n) (λ p. StoresReply k (replies (Some p)) m n) × (a ≡ Fresh (next_number m))
  Specifies (UpdateOrInsertWith k) replies m a n = StoresReply k (replies (m.at k)) m n × (a ≡ Fresh (next_number m))
  Specifies (Compute k) replies m a n = Computes k (m.at k) (replies (m.at k)) m a n
  Specifies (Remove k) replies m a n = Clears eq k m n × (a ≡ looked (m.at k))
  Specifies (RemoveEntry k) replies m a n = Clears eq k m n × (a ≡ looked (m.at k))
  Specifies (RemoveIf k) replies m a n =
      MatchOption (m.at k) (IsUnchanged m n × (a ≡ Nothing))
      (λ p. (yes : Bool) × (replies (Some p) ≡ Some (Decides yes)) × MatchBool yes (Clears eq k m n × (a ≡ There p)) (IsUnchanged m n × (a ≡ Kept p)))
