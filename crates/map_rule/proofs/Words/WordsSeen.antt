-- What is found at a place, by its word, says what stands in it.
use Rattle.std.proofs.Common.{◌≡◌, ◌≢◌, ℕ, Bool, true, false, Option, Some, ◌⊎◌, inl, inr, refl, sym, subst, ◌<◌}
use Rattle.map_machines.specs.Given.TablesChunks.{is_incremental}
use Rattle.std.specs.Prelude.{if◌then◌else◌}
use Rattle.map_machines.specs.Given.TablesFinding.{finding, marked}
use Rattle.map_machines.specs.Given.TablesDeclared.resize_mode.ResizeMode.{ResizeMode}
use Rattle.map_machines.specs.Given.TablesDeclared.resize_mode.ResizeMode.TheVariants.{Incremental, Blocking}
use Rattle.map_machines.specs.Given.TablesDeclared.finding.Aim.{Aim}
use Rattle.map_machines.specs.Given.TablesDeclared.finding.Aim.TheVariants.{Looks, Changes, Stores}
use Rattle.map_machines.specs.Given.TablesDeclared.finding.Finding.{Finding}
use Rattle.map_machines.specs.Given.TablesDeclared.finding.Finding.TheVariants as is
use Rattle.map_rule.specs.Chart.{Phase, Still, Copying, Copied, Place, Empty, Tombstone, Holds, is_marked, is_taken}
use Rattle.map_rule.specs.Words.{word_of}
use Rattle.map_rule.proofs.Words.PlaceWords.{HasBlock, HasByte}
use Rattle.map_rule.proofs.Words.PlaceWordsFinding.{finding-other, finding-still, finding-copying, finding-copied}

module _ {K : Type 0} (keys : K → Bool) (key : ℕ → Option K) (place : Place) where
  -- the place holds this pair, which is one of the keys
  abbrev pub HoldsPair : ℕ → Phase → Bool → Type 0
  HoldsPair n phase borrowed = (place ≡ Holds n phase borrowed) × (k : K) × (key n ≡ Some k) × (keys k ≡ true)

  -- a pair of the place has a key
  abbrev pub HasKey : Type 0
  HasKey = (n : ℕ) (phase : Phase) (borrowed : Bool) → place ≡ Holds n phase borrowed → (k : K) × (key n ≡ Some k)

  -- it tells whether a pair of the place is one of the keys
  abbrev pub Tells : Bool → Type 0
  Tells same = (n : ℕ) (phase : Phase) (borrowed : Bool) (k : K) → place ≡ Holds n phase borrowed → key n ≡ Some k → same ≡ keys k

  -- the place is empty, or in blocking mode, it stays so
  abbrev pub SaysFree : Bool → Aim → Type 0
  SaysFree incremental aim = (place ≡ Empty false) ⊎ ((place ≡ Empty true) × (incremental ≡ false) × (aim ≢ Stores))

  abbrev pub SaysPassed : Bool → Type 0
  SaysPassed incremental = (is_taken incremental place ≡ true) × Tells false

  -- in incremental mode, the pair was copied; in blocking mode, the place is marked
  abbrev pub SaysMoved : Bool → Aim → Type 0
  SaysMoved incremental aim =
      ((incremental ≡ true) × (n : ℕ) × (borrowed : Bool) × HoldsPair n Copied borrowed)
      ⊎ ((incremental ≡ false) × (aim ≢ Looks) × (is_marked place ≡ true))

  abbrev pub SaysCopying : Bool → Aim → Type 0
  SaysCopying incremental aim = (incremental ≡ true) × (aim ≢ Looks) × (n : ℕ) × (borrowed : Bool) × HoldsPair n Copying borrowed

  abbrev pub SaysThere : Bool → Aim → Type 0
  SaysThere incremental aim =
      (n : ℕ) × (phase : Phase) × (borrowed : Bool) × HoldsPair n phase borrowed × (aim ≢ Looks → phase ≡ Still) × (incremental ≡ true → phase ≢ Copied)

  -- what is found there
  abbrev pub Says : Bool → Aim → Finding → Type 0
  Says incremental aim is.Free = SaysFree incremental aim
  Says incremental aim is.Passed = SaysPassed incremental
  Says incremental aim is.Moved = SaysMoved incremental aim
  Says incremental aim is.Copying = SaysCopying incremental aim
  Says incremental aim is.There = SaysThere incremental aim

module _ {K : Type 0} (keys : K → Bool) (key : ℕ → Option K) (block byte : ℕ → ℕ) where
  abbrev Is : ResizeMode → Aim → Place → Bool → Type 0
  Is mode aim place same = Says keys key place (is_incremental mode) aim (finding mode aim (word_of block byte place) same)

  says_empty : (mode : ResizeMode) (aim : Aim) (same : Bool) → Is mode aim (Empty true) same
  says_empty (Incremental chunk) aim same = (refl, λ n phase borrowed k e has. cc)
  says_empty Blocking Looks same = inr (refl, refl, λ e. cc)
  says_empty Blocking Changes same = inr (refl, refl, λ e. cc)
  says_empty Blocking Stores same = inr (refl, (λ e. cc), refl)

  says_other : (mode : ResizeMode) (aim : Aim) (n : ℕ) (phase : Phase) (borrowed : Bool) → byte n < 128 → 0 < block n → Tells keys key (Holds n phase borrowed) false
      → Is mode aim (Holds n phase borrowed) false
  says_other mode aim n phase borrowed low some tells =
      subst (Says keys key (Holds n phase borrowed) (is_incremental mode) aim) (sym (finding-other block byte mode aim n borrowed low some phase)) (refl, tells)

  module _ (n : ℕ) (borrowed : Bool) (low : byte n < 128) (some : 0 < block n) where
    says_still : (mode : ResizeMode) (aim : Aim) (k : K) → key n ≡ Some k → keys k ≡ true → Is mode aim (Holds n Still borrowed) true
    says_still mode aim k has asked =
        subst (Says keys key (Holds n Still borrowed) (is_incremental mode) aim) (sym (finding-still block byte mode aim n borrowed low some))
        (n, Still, borrowed, (refl, k, has, asked), (λ a. refl), (λ a e. cc))

    says_copying : (mode : ResizeMode) (aim : Aim) (k : K) → key n ≡ Some k → keys k ≡ true → Is mode aim (Holds n Copying borrowed) true
    says_copying mode aim k has asked =
        subst (Says keys key (Holds n Copying borrowed) (is_incremental mode) aim) (sym (finding-copying block byte mode aim n borrowed low some)) (by_mode mode aim)
      where
        by_mode : (mode : ResizeMode) (aim : Aim) → Says keys key (Holds n Copying borrowed) (is_incremental mode) aim (marked (is_incremental mode) aim)
        by_mode (Incremental chunk) Looks = (n, Copying, borrowed, (refl, k, has, asked), (λ a. absurd (a refl)), (λ a e. cc))
        by_mode (Incremental chunk) Changes = (refl, (λ e. cc), n, borrowed, (refl, k, has, asked))
        by_mode (Incremental chunk) Stores = (refl, (λ e. cc), n, borrowed, (refl, k, has, asked))
        by_mode Blocking Looks = (n, Copying, borrowed, (refl, k, has, asked), (λ a. absurd (a refl)), (λ a e. cc))
        by_mode Blocking Changes = inr (refl, (λ e. cc), refl)
        by_mode Blocking Stores = inr (refl, (λ e. cc), refl)

    says_copied : (mode : ResizeMode) (aim : Aim) (k : K) → key n ≡ Some k → keys k ≡ true → Is mode aim (Holds n Copied borrowed) true
    says_copied mode aim k has asked =
        subst (Says keys key (Holds n Copied borrowed) (is_incremental mode) aim) (sym (finding-copied block byte mode aim n borrowed low some)) (by_mode mode aim)
      where
        by_mode : (mode : ResizeMode) (aim : Aim)
            → Says keys key (Holds n Copied borrowed) (is_incremental mode) aim (if is_incremental mode then is.Moved else marked (is_incremental mode) aim)
        by_mode (Incremental chunk) aim = inl (refl, n, borrowed, (refl, k, has, asked))
        by_mode Blocking Looks = (n, Copied, borrowed, (refl, k, has, asked), (λ a. absurd (a refl)), (λ a. absurd (cc)))
        by_mode Blocking Changes = inr (refl, (λ e. cc), refl)
        by_mode Blocking Stores = inr (refl, (λ e. cc), refl)

  says_pair : (mode : ResizeMode) (aim : Aim) (n : ℕ) (phase : Phase) (borrowed : Bool) → byte n < 128 → 0 < block n → (k : K) → key n ≡ Some k → keys k ≡ true
      → Is mode aim (Holds n phase borrowed) true
  says_pair mode aim n Still borrowed low some k has asked = says_still n borrowed low some mode aim k has asked
  says_pair mode aim n Copying borrowed low some k has asked = says_copying n borrowed low some mode aim k has asked
  says_pair mode aim n Copied borrowed low some k has asked = says_copied n borrowed low some mode aim k has asked

  -- what is found by a place's word is so
  pub says : (mode : ResizeMode) (aim : Aim) (place : Place) (same : Bool) → HasBlock block place → HasByte byte place → HasKey keys key place → Tells keys key place same
      → Says keys key place (is_incremental mode) aim (finding mode aim (word_of block byte place) same)
  says mode aim (Empty false) same some low has tells = inl refl
  says mode aim (Empty true) same some low has tells = says_empty mode aim same
  says mode aim (Tombstone true) same some low has tells = (refl, λ n phase borrowed k e h. cc)
  says mode aim (Tombstone false) same some low has tells = (refl, λ n phase borrowed k e h. cc)
  says mode aim (Holds n phase borrowed) false some low has tells = says_other mode aim n phase borrowed (low n phase borrowed refl) (some n phase borrowed refl) tells
  says mode aim (Holds n phase borrowed) true some low has tells =
      let kept = has n phase borrowed refl in
      says_pair mode aim n phase borrowed (low n phase borrowed refl) (some n phase borrowed refl) kept.0 kept.1 (sym (tells n phase borrowed kept.0 refl kept.1))
