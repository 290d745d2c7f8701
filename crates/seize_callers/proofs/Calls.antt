-- What a call of the shared memory asks for: by what the seat knows, its turn or operation is next.
use Rattle.std.specs.Prelude.{◌<◌, ◌==◌, Option, if◌then◌else◌}
use Rattle.std.proofs.Common.{◌≡◌, ℕ, ◌^◌, ◌%◌, Bool, true, false, refl, sym, subst, ap, ◌∙◌, arith}
use Rattle.seize_words.specs.OneMemory.Op.{Op, Load, Swap, Or, Exchange, Make, Take, Found}
use Rattle.seize_words.specs.OneMemory.Word.{block_in, link_to}
use Rattle.seize_words.specs.declared.at.At.TheVariants.{Root}
use Rattle.seize.specs.World.{HasListWord}
use Rattle.seize_seats.specs.Seats.Lendings.{VisibleTo}
use Rattle.seize_seats.specs.Seats.State.{Allows}
use Rattle.seize_views.specs.Views.Rows.{Permits, Holds}
use Rattle.seize_views.specs.Views.Watched.{IsOwn}
use Rattle.seize_views.specs.Views.Notes.{NotedHolds, NotedKeeps, noted_observed}
use Rattle.seize_views.specs.Views.Promises.{Names, HasMade, IsLooking}
use Rattle.seize_views.specs.Views.Told.{seen_in, seen_as, made_beside, told}
use Rattle.seize_views.specs.declared.view.Noted.{Noted}
use Rattle.seize_views.specs.declared.view.SlotView.{SlotView}
use Rattle.seize_views.specs.declared.view.SlotView.TheVariants.{Outside, Inside}
use Rattle.seize_views.specs.declared.view.Has.{Has}
use Rattle.seize_views.specs.declared.view.Has.TheVariants.{Nothing, Made, Seen, Both}
use Rattle.seize_views.specs.declared.view.Fixed.{Fixed}
use Rattle.seize_views.proofs.Views.Blocks.{blocks_are_made, made_are_taken, known_are_shown}
use Rattle.seize_views.proofs.Views.Roots.{made_are_linked, made_are_exchanged, roots_are_cleared, roots_are_seen, roots_are_marked, roots_are_withdrawn}
use Rattle.seize_views.proofs.Views.Written.{block_of_link}
use Rattle.seize_views.proofs.Views.Notes.{allows, looks_are_noted}

-- the word that links to a block whose number is small enough
pub whole_link : (b : ℕ) → b < 2 ^ 53 → link_to b % 2 ^ 64 ≡ link_to b
whole_link b lt = omega (arith, lt)

-- which it names
link_names : (b word : ℕ) → b < 2 ^ 53 → word ≡ link_to b % 2 ^ 64 → block_in word ≡ b
link_names b word lt link = ap block_in (link ∙ whole_link b lt) ∙ block_of_link b

module _ {T : Type 0} (defers : T → Option ℕ) (fixed : Fixed) (id : ℕ) (v : Noted T) where
  -- what may be done by what the seat knows, it may do, and notes it
  pub by_view : (w : SlotView T) (op : Op T) → v.knows ≡ w → IsOwn w → Permits defers fixed id w op (told defers w op)
      → Allows (NotedHolds defers fixed) NotedKeeps id v op (noted_observed defers v op)
  by_view w op is own may =
      allows defers fixed id v op (subst IsOwn (sym is) own) (subst (λ (x : SlotView T). Permits defers fixed id x op (told defers x op)) (sym is) may)

module _ {T : Type 0} (defers : T → Option ℕ) (fixed : Fixed) (id : ℕ) (v : Noted T) (slot : ℕ) where
  abbrev MayMake : Op T → Type 0
  MayMake op = Allows (NotedHolds defers fixed) NotedKeeps id v op (noted_observed defers v op)

  -- beside a block that was seen, or none

  is_looking : (a : ℕ) (y : Bool) → IsLooking {T = T} (if y then Nothing else Seen a)
  is_looking a true = tt
  is_looking a false = tt

  pub may_make_beside : (a : ℕ) → v.knows ≡ Inside slot (seen_as a) → (value : T) (words : ℕ) → HasListWord defers (defers value) words → MayMake (Make value words)
  may_make_beside a is value words list =
      by_view defers fixed id v (Inside slot (seen_as a)) (Make value words) is tt (blocks_are_made T defers (seen_as a) value words (is_looking a (a == 0)) list fixed id slot)

  has_made : (b : ℕ) (x : T) (a : ℕ) (y : Bool) → HasMade (if y then Made b x else Both b x a) b
  has_made b x a true = refl
  has_made b x a false = refl

  pub may_take_beside : (b : ℕ) (x : T) (a : ℕ) → v.knows ≡ Inside slot (made_beside b x a) → MayMake (Take b)
  may_take_beside b x a is =
      by_view defers fixed id v (Inside slot (made_beside b x a)) (Take b) is tt (made_are_taken T defers (made_beside b x a) b (has_made b x a (a == 0)) fixed id slot)

  pub may_exchange : (b : ℕ) (x : T) (a r old word : ℕ) → v.knows ≡ Inside slot (made_beside b x a) → r < fixed.roots → b < 2 ^ 53 → word ≡ link_to b % 2 ^ 64
      → MayMake (Exchange (Root r) old word)
  may_exchange b x a r old word is lt fits link =
      by_view defers fixed id v (Inside slot (made_beside b x a)) (Exchange (Root r) old word) is tt
      (made_are_exchanged T defers (made_beside b x a) b r old word fixed id slot (has_made b x a (a == 0)) (link_names b word fits link) lt)

  pub may_link : (b : ℕ) (x : T) (r word : ℕ) → v.knows ≡ Inside slot (Made b x) → r < fixed.roots → b < 2 ^ 53 → word ≡ link_to b % 2 ^ 64
      → MayMake (Swap (Root r) word)
  may_link b x r word is lt fits link =
      by_view defers fixed id v (Inside slot (Made b x)) (Swap (Root r) word) is tt
      (made_are_linked T defers b x r word fixed id slot (link_names b word fits link) lt)

  pub may_clear : (r : ℕ) → v.knows ≡ Inside slot Nothing → r < fixed.roots → MayMake (Swap (Root r) 0)
  may_clear r is lt = by_view defers fixed id v (Inside slot Nothing) (Swap (Root r) 0) is tt (roots_are_cleared T defers r fixed id slot lt)

  pub may_withdraw : (r : ℕ) → v.knows ≡ Outside slot → r < fixed.roots → MayMake (Swap (Root r) 0)
  may_withdraw r is lt = by_view defers fixed id v (Outside slot) (Swap (Root r) 0) is tt (roots_are_withdrawn T defers r fixed id slot lt)

  pub may_see : (has : Has T) (r : ℕ) → IsLooking has → v.knows ≡ Inside slot has → r < fixed.roots → MayMake (Load (Root r))
  may_see has r looks is lt = by_view defers fixed id v (Inside slot has) (Load (Root r)) is tt (roots_are_seen T defers has r fixed id slot looks lt)

  pub may_mark : (has : Has T) (r bits : ℕ) → IsLooking has → v.knows ≡ Inside slot has → bits < 2 ^ 11 → r < fixed.roots → MayMake (Or (Root r) bits)
  may_mark has r bits looks is small lt =
      by_view defers fixed id v (Inside slot has) (Or (Root r) bits) is tt (roots_are_marked T defers has r bits fixed id slot looks small lt)

  pub is_shown : (has : Has T) (b : ℕ) → v.knows ≡ Inside slot has → Names has b → VisibleTo (NotedHolds defers fixed) id v b
  is_shown has b is names =
      (looks_are_noted T defers fixed id v b).0
      (subst (λ (x : SlotView T). VisibleTo (Holds defers fixed) id x b) (sym is) (known_are_shown T defers has b fixed id slot names))

module _ {T : Type 0} (defers : T → Option ℕ) (v w : SlotView T) (slot : ℕ) where
  pub seen_told : (has : Has T) (r word : ℕ) → IsLooking has → v ≡ Inside slot has → told defers v (Load (Root r)) (Found word) w → w ≡ Inside slot (seen_in word)
  seen_told Nothing r word looks is so = let k = subst (λ (x : SlotView T). told defers x (Load (Root r)) (Found word) w) is so in k.2 ∙ ap (Inside slot) k.1
  seen_told (Seen b) r word looks is so = let k = subst (λ (x : SlotView T). told defers x (Load (Root r)) (Found word) w) is so in k.2 ∙ ap (Inside slot) k.1
  seen_told _ r word looks is so = absurd looks

  pub marked_told : (has : Has T) (r bits word : ℕ) → IsLooking has → v ≡ Inside slot has → told defers v (Or (Root r) bits) (Found word) w
      → w ≡ Inside slot (seen_in word)
  marked_told Nothing r bits word looks is so = let k = subst (λ (x : SlotView T). told defers x (Or (Root r) bits) (Found word) w) is so in k.2 ∙ ap (Inside slot) k.1
  marked_told (Seen b) r bits word looks is so = let k = subst (λ (x : SlotView T). told defers x (Or (Root r) bits) (Found word) w) is so in k.2 ∙ ap (Inside slot) k.1
  marked_told _ r bits word looks is so = absurd looks
  -- what a making tells beside a block that was seen, a taking away, and an exchange
