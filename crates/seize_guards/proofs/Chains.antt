-- What a seat may do with chains, and what it knows then.
use Rattle.std.specs.Prelude.{◌≢◌, ◌<◌, Option, Some, None}
use Rattle.std.proofs.Common.{◌≡◌, ℕ, inr, refl, sym, subst, ap, ◌∙◌}
use Rattle.seize_words.specs.OneMemory.Op.{Op, Load, Store, Exchange, Make, Take, Stored, Taken}
use Rattle.seize_words.specs.OneMemory.Word.{block_in}
use Rattle.seize_words.specs.declared.at.At.TheVariants.{Root, Word}
use Rattle.seize.specs.World.{HasListWord}
use Rattle.seize_seats.specs.Seats.Errands.{TurnsUnlent}
use Rattle.seize_seats.specs.Seats.Lendings.{VisibleTo, IsValueOf}
use Rattle.seize_seats.specs.Seats.State.{Allows}
use Rattle.seize_views.specs.Views.Chains.{IsChainRoot}
use Rattle.seize_views.specs.Views.Notes.{NotedHolds, NotedKeeps, noted_observed}
use Rattle.seize_views.specs.Views.Promises.{IsLooking}
use Rattle.seize_views.specs.Views.Rows.{Holds}
use Rattle.seize_views.specs.Views.Stacking.{IsOnItsWay, GoesItsWay}
use Rattle.seize_views.specs.Views.Told.{joined_as, told}
use Rattle.seize_views.specs.Views.Watched.{Leans, LeansOn, IsOwn, Stays}
use Rattle.seize_views.specs.declared.view.TheConstants.{LINK}
use Rattle.seize_views.specs.declared.view.Noted.{Noted}
use Rattle.seize_views.specs.declared.view.SlotView.{SlotView}
use Rattle.seize_views.specs.declared.view.SlotView.TheVariants.{Rests, Inside, Joins}
use Rattle.seize_views.specs.declared.view.Has.{Has}
use Rattle.seize_views.specs.declared.view.Has.TheVariants.{Nothing, Seen, Walks}
use Rattle.seize_views.specs.declared.view.Fixed.{Fixed}
use Rattle.seize_views.proofs.Views.Blocks.{known_are_shown}
use Rattle.seize_views.proofs.Views.Notes.{looks_are_noted, turns_are_noted}
use Rattle.seize_views.proofs.Views.Stacking.{joining_are_made, links_are_written, joining_are_taken, joining_are_put, joining_are_shown}
use Rattle.seize_views.proofs.Views.Walking.{ways_begin, chains_are_seen, links_are_seen, links_are_copied}
use Rattle.seize_guards.specs.Joining.{joined_by}
use Rattle.seize_callers.proofs.Calls.{by_view}
use Rattle.seize_words.proofs.General.{same_some}

module _ {T : Type 0} where
  -- which view it has that has made a block for a chain
  pub joins : (b a : ℕ) (v : SlotView T) → joined_by v ≡ Some (b, a) → (x : T) × (v ≡ Joins (Some (b, x, a)))
  joins b a (Joins (Some (c, x, d))) e =
      let same = same_some (c, d) (b, a) e in
      (x, ap (λ (k : ℕ). Joins (Some (k, x, d))) (ap (λ (p : ℕ × ℕ). p.0) same) ∙ ap (λ (k : ℕ). Joins (Some (b, x, k))) (ap (λ (p : ℕ × ℕ). p.1) same))
  joins b a (Joins None) e = absurd (cc e)
  joins b a _ e = absurd (cc e)

  -- turning to chains within a section
  pub walks_next : (t : ℕ) (has : Has T) → IsLooking has → IsOnItsWay (Inside t has) (Inside t (Walks 0 None))
  walks_next t Nothing looks = (looks, refl)
  walks_next t (Seen b) looks = (looks, refl)
  walks_next t _ looks = absurd looks

-- and from them
pub stops_next : (T : Type 0) (t b : ℕ) (next : Option ℕ) → IsOnItsWay {T = T} (Inside t (Walks b next)) (Inside t Nothing)
stops_next T t b None = refl
stops_next T t b (Some c) = inr refl

module _ {T : Type 0} (defers : T → Option ℕ) (fixed : Fixed) (id : ℕ) (v : Noted T) where
  -- a turn of chains, by what the seat knows
  pub may_go : (f : SlotView T → SlotView T) (x u : SlotView T) → v.knows ≡ x → f x ≡ u → IsOwn x → IsOwn u → Stays v.guards x u → IsOnItsWay x u
      → TurnsUnlent (NotedHolds defers fixed) NotedKeeps Leans id v (GoesItsWay f v)
  may_go f x u is to own own2 stays way s h at unlent =
      let mine = subst (λ (y : SlotView T). IsOnItsWay y u) (sym is) way in
      let g = turns_are_noted T defers fixed id v u v.did v.began (subst IsOwn (sym is) own) own2 (subst (λ (y : SlotView T). Stays v.guards y u) (sym is) stays)
      (ways_begin T defers fixed id v.knows u mine) s h at unlent in
      (g.0, g.1, g.2, g.3, (g.4.0 ∙ sym (ap f is ∙ to), (g.4.1, g.4.2, g.4.3)))

  abbrev MayMake : Op T → Type 0
  MayMake op = Allows (NotedHolds defers fixed) NotedKeeps id v op (noted_observed defers v op)

  pub may_join : v.knows ≡ Joins None → (value : T) (words : ℕ) → HasListWord defers (defers value) words → LINK < words → defers value ≢ Some LINK → MayMake (Make value words)
  may_join is value words list long own =
      by_view defers fixed id v (Joins None) (Make value words) is tt (joining_are_made T defers fixed value words list long own id)

  pub may_name : (b a word : ℕ) → joined_by v.knows ≡ Some (b, a) → MayMake (Store (Word b LINK) word)
  may_name b a word e =
      let k = joins b a v.knows e in by_view defers fixed id v (Joins (Some (b, k.0, a))) (Store (Word b LINK) word) k.1 tt (links_are_written T defers fixed b k.0 a word id)

  pub may_take_apart : (b a : ℕ) → joined_by v.knows ≡ Some (b, a) → MayMake (Take b)
  may_take_apart b a e =
      let k = joins b a v.knows e in by_view defers fixed id v (Joins (Some (b, k.0, a))) (Take b) k.1 tt (joining_are_taken T defers fixed b k.0 a id)

  pub may_stack : (b r old word : ℕ) → joined_by v.knows ≡ Some (b, block_in old) → IsChainRoot fixed r → block_in word ≡ b → MayMake (Exchange (Root r) old word)
  may_stack b r old word e chain names =
      let k = joins b (block_in old) v.knows e in
      by_view defers fixed id v (Joins (Some (b, k.0, block_in old))) (Exchange (Root r) old word) k.1 tt
      (joining_are_put T defers fixed b k.0 (block_in old) r old word names refl chain id)

  pub is_joined : (b a : ℕ) → joined_by v.knows ≡ Some (b, a) → VisibleTo (NotedHolds defers fixed) id v b
  is_joined b a e =
      let k = joins b a v.knows e in
      (looks_are_noted T defers fixed id v b).0
      (subst (λ (x : SlotView T). VisibleTo (Holds defers fixed) id x b) (sym k.1) (joining_are_shown T defers fixed id b k.0 a).0)

  pub joined_value : (b a : ℕ) (x y : T) → v.knows ≡ Joins (Some (b, x, a)) → IsValueOf (NotedHolds defers fixed) id v b y → y ≡ x
  joined_value b a x y is of =
      (joining_are_shown T defers fixed id b x a).1 y
      (subst (λ (u : SlotView T). IsValueOf (Holds defers fixed) id u b y) is ((looks_are_noted T defers fixed id v b).1 y of))

  module _ (slot : ℕ) where
    pub may_see_first : (b r : ℕ) (next : Option ℕ) → v.knows ≡ Inside slot (Walks b next) → IsChainRoot fixed r → MayMake (Load (Root r))
    may_see_first b r next is chain =
        by_view defers fixed id v (Inside slot (Walks b next)) (Load (Root r)) is tt (chains_are_seen T defers fixed slot b r next chain id)

    pub may_see_link : (b : ℕ) (next : Option ℕ) → v.knows ≡ Inside slot (Walks b next) → b ≢ 0 → MayMake (Load (Word b LINK))
    may_see_link b next is some =
        by_view defers fixed id v (Inside slot (Walks b next)) (Load (Word b LINK)) is tt (links_are_seen T defers fixed slot b next some id)

    pub may_copy : (r old word : ℕ) → v.knows ≡ Inside slot (Walks (block_in old) (Some (block_in word))) → block_in old ≢ 0 → IsChainRoot fixed r
        → MayMake (Exchange (Root r) old word)
    may_copy r old word is some chain =
        by_view defers fixed id v (Inside slot (Walks (block_in old) (Some (block_in word)))) (Exchange (Root r) old word) is tt
        (links_are_copied T defers fixed slot (block_in old) (block_in word) r old word some refl refl chain id)

    pub is_met : (b : ℕ) (next : Option ℕ) → v.knows ≡ Inside slot (Walks b next) → b ≢ 0 → VisibleTo (NotedHolds defers fixed) id v b
    is_met b next is some =
        (looks_are_noted T defers fixed id v b).0
        (subst (λ (x : SlotView T). VisibleTo (Holds defers fixed) id x b) (sym is) (known_are_shown T defers (Walks b next) b fixed id slot (refl, some)))

module _ {T : Type 0} (defers : T → Option ℕ) (v w : SlotView T) where
  -- what was written names what stands below then; and who has taken it apart rests

  pub named_told : (b a word : ℕ) (x : T) → v ≡ Joins (Some (b, x, a)) → told defers v (Store (Word b LINK) word) Stored w → w ≡ Joins (Some (b, x, block_in word))
  named_told b a word x is so =
      let t = subst (λ (y : SlotView T). told defers y (Store (Word b LINK) word) Stored w) is so in t.2 ∙ ap joined_as t.1

  pub named_still : (b a word : ℕ) → joined_by v ≡ Some (b, a) → told defers v (Store (Word b LINK) word) Stored w → joined_by w ≡ Some (b, block_in word)
  named_still b a word e so = let k = joins b a v e in ap joined_by (named_told b a word k.0 k.1 so)

  pub apart_told : (b a : ℕ) (value : T) → joined_by v ≡ Some (b, a) → told defers v (Take b) (Taken value) w → w ≡ Rests
  apart_told b a value e so =
      let k = joins b a v e in let t = subst (λ (y : SlotView T). told defers y (Take b) (Taken value) w) k.1 so in t.2 ∙ ap joined_as t.1.1

  pub apart_value : (b a : ℕ) (x value : T) → v ≡ Joins (Some (b, x, a)) → told defers v (Take b) (Taken value) w → value ≡ x
  apart_value b a x value is so = (subst (λ (y : SlotView T). told defers y (Take b) (Taken value) w) is so).1.0

-- a seat on whom nobody may lean leans on nobody, whatever it turns to of these
pub way_leans : {T : Type 0} (w : SlotView T) (x : SlotView T) (n : ℕ) → w ≡ x → (LeansOn x n → ⊥) → LeansOn w n → ⊥
way_leans w x n is none leans = none (subst (λ (y : SlotView _). LeansOn y n) is leans)
