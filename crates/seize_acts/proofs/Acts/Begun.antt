-- The tests of an act are the conditions under which the world lets it happen.
use Rattle.std.specs.Prelude.{not, Option, Some, None, ◌==◌, ◌&&◌, ◌||◌, if◌then◌else◌}
use Rattle.std.proofs.Common.{◌≡◌, ℕ, zero, suc, Bool, true, false, refl, sym, ap, arith, ◌∙◌, ◌⊎◌, inl, inr}
use Rattle.seize_words.specs.declared.at.At.{At}
use Rattle.seize_words.specs.declared.at.At.TheVariants as name
use Rattle.seize_words.specs.OneMemory.Mem.{Mem, value_at}
use Rattle.seize.specs.declared.states.TheConstants.{NEXT}
use Rattle.seize.specs.Law.{holds}
use Rattle.seize.specs.World.{World, Row, Rests, Use, Vacant, Outside, Inside, Changing, Hand, NoBlock, Making, InUse, Parting, Cutting, Handed, LeftTo, Request, Register', Enter', Leave', LeaveOwned, Refresh, Unregister', Retire, Flush, Defer', Begins, IsOwn, IsInside, IsNotLeft, IsTaken, HasListWord, MayCut}
use Rattle.seize_acts.specs.Acts.Acts as act
use Rattle.seize_acts.proofs.Acts.Answers.{given_is}
use Rattle.seize_words.proofs.General.{both_true as and_both, same_some}

pub or_either : (a b : Bool) → (a || b) ≡ true → (a ≡ true) ⊎ (b ≡ true)
or_either true b e = inl refl
or_either false b e = inr e

pub rests_is : (r : Row) → act.rests r ≡ true → r ≡ Rests
rests_is r e = grind (arith, e)

outside_is : (u : Use) → act.is_outside u ≡ true → u ≡ Outside 0
outside_is Vacant e = absurd (cc e)
outside_is (Outside zero) e = refl
outside_is (Outside (suc k)) e = absurd (cc e)
outside_is (Inside k) e = absurd (cc e)
outside_is Changing e = absurd (cc e)

inside_is : (u : Use) → act.is_inside u ≡ true → u ≡ Inside 0
inside_is Vacant e = absurd (cc e)
inside_is (Outside k) e = absurd (cc e)
inside_is (Inside zero) e = refl
inside_is (Inside (suc k)) e = absurd (cc e)
inside_is Changing e = absurd (cc e)

within_is : (u : Use) → act.is_within u ≡ true → IsInside u
within_is Vacant e = absurd (cc e)
within_is (Outside k) e = absurd (cc e)
within_is (Inside k) e = tt
within_is Changing e = absurd (cc e)

taken_is : (u : Use) → act.is_taken u ≡ true → IsTaken u
taken_is Vacant e = absurd (cc e)
taken_is (Outside k) e = tt
taken_is (Inside k) e = tt
taken_is Changing e = absurd (cc e)

pub making_is : (h : Hand) → act.is_making h ≡ true → (holder : ℕ) × (h ≡ Making holder)
making_is NoBlock e = absurd (cc e)
making_is (Making holder) e = (holder, refl)
making_is (InUse o) e = absurd (cc e)
making_is (Parting holder) e = absurd (cc e)
making_is (Cutting holder) e = absurd (cc e)
making_is Handed e = absurd (cc e)
making_is (LeftTo holder) e = absurd (cc e)

pub cutting_is : (h : Hand) → act.is_cutting h ≡ true → (holder : ℕ) × (h ≡ Cutting holder)
cutting_is NoBlock e = absurd (cc e)
cutting_is (Making holder) e = absurd (cc e)
cutting_is (InUse o) e = absurd (cc e)
cutting_is (Parting holder) e = absurd (cc e)
cutting_is (Cutting holder) e = (holder, refl)
cutting_is Handed e = absurd (cc e)
cutting_is (LeftTo holder) e = absurd (cc e)

pub left_is : (h : Hand) → act.is_left h ≡ true → (holder : ℕ) × (h ≡ LeftTo holder)
left_is NoBlock e = absurd (cc e)
left_is (Making holder) e = absurd (cc e)
left_is (InUse o) e = absurd (cc e)
left_is (Parting holder) e = absurd (cc e)
left_is (Cutting holder) e = absurd (cc e)
left_is Handed e = absurd (cc e)
left_is (LeftTo holder) e = (holder, refl)

pub cut_is : (i : ℕ) (h : Hand) → act.may_cut i h ≡ true → MayCut i h
cut_is i NoBlock e = absurd (cc e)
cut_is i (Making holder) e = absurd (cc e)
cut_is i (InUse o) e = tt
cut_is i (Parting holder) e = grind (arith, e)
cut_is i (Cutting holder) e = absurd (cc e)
cut_is i Handed e = absurd (cc e)
cut_is i (LeftTo holder) e = absurd (cc e)

pub in_use_is : (h : Hand) → act.is_in_use h ≡ true → (o : ℕ) × (h ≡ InUse o)
in_use_is NoBlock e = absurd (cc e)
in_use_is (Making holder) e = absurd (cc e)
in_use_is (InUse o) e = (o, refl)
in_use_is (Parting holder) e = absurd (cc e)
in_use_is (Cutting holder) e = absurd (cc e)
in_use_is Handed e = absurd (cc e)
in_use_is (LeftTo holder) e = absurd (cc e)

not_left : (h : Hand) → act.is_left h ≡ false → IsNotLeft h
not_left h e = grind (arith, e)

module _ {T : Type 0} (defers : T → Option ℕ) where
  value_of : (o : Option T) (d : Option ℕ) → act.list_field defers o ≡ Some d → (value : T) × (o ≡ Some value) × (defers value ≡ d)
  value_of None d e = absurd (cc e)
  value_of (Some value) d e = (value, refl, same_some (defers value) d e)

  no_list_is : (o : Option (Option ℕ)) → act.no_list defers o ≡ true → o ≡ Some None
  no_list_is None e = absurd (cc e)
  no_list_is (Some None) e = refl
  no_list_is (Some (Some d)) e = absurd (cc e)

  pub begun_is : (size i : ℕ) (request : Request) (w n : World T) → act.begun defers size i request w ≡ Some n → Begins defers size i request w n
  begun_is size i (Register' enters) w n e = sym (same_some _ n e)
  begun_is size i (Enter' s) w n e = let g = given_is (act.is_outside (w.uses s)) _ n e in (outside_is (w.uses s) g.0, g.1)
  begun_is size i (Leave' s) w n e = let g = given_is (act.is_inside (w.uses s)) _ n e in (inside_is (w.uses s) g.0, g.1)
  begun_is size i (LeaveOwned s) w n e = let g = given_is (act.is_inside (w.uses s)) _ n e in (inside_is (w.uses s) g.0, g.1)
  begun_is size i (Refresh s) w n e = let g = given_is (act.is_inside (w.uses s)) _ n e in (inside_is (w.uses s) g.0, g.1)
  begun_is size i (Unregister' s) w n e = let g = given_is (act.is_outside (w.uses s)) _ n e in (outside_is (w.uses s) g.0, g.1)
  begun_is size i (Retire s b) w n e =
      let g = given_is (act.is_taken (w.uses s) && act.is_cutting (w.hand b)) _ n e in
      let k = and_both (act.is_taken (w.uses s)) (act.is_cutting (w.hand b)) g.0 in
      (taken_is (w.uses s) k.0, cutting_is (w.hand b) k.1, g.1)
  begun_is size i (Flush s) w n e = let g = given_is (act.is_taken (w.uses s)) _ n e in (taken_is (w.uses s) g.0, g.1)
  begun_is size i (Defer' s b t) w n e =
      by (act.is_within (w.uses s)) (act.may_cut i (w.hand b)) (act.no_list defers (act.list_field defers (value_at w.memory b))) (holds s t w.log) (act.is_left (w.hand t)) refl refl refl refl refl e
    where
      at : act.is_within (w.uses s) ≡ true → act.may_cut i (w.hand b) ≡ true → act.no_list defers (act.list_field defers (value_at w.memory b)) ≡ true
          → holds s t w.log ≡ true → act.is_left (w.hand t) ≡ false → (o : Option (Option ℕ)) → act.list_field defers (value_at w.memory t) ≡ o → act.deferred_by defers size i s b t w o ≡ Some n
          → Begins defers size i (Defer' s b t) w n
      at p q r z u None f k = absurd (cc k)
      at p q r z u (Some None) f k = absurd (cc k)
      at p q r z u (Some (Some field)) f k = (
        field,
        within_is (w.uses s) p,
        cut_is i (w.hand b) q,
        value_of (value_at w.memory b) None (no_list_is (act.list_field defers (value_at w.memory b)) r),
        value_of (value_at w.memory t) (Some field) f,
        z,
        not_left (w.hand t) u,
        sym (same_some _ n k),
      )

      by : (p q r z u : Bool) → act.is_within (w.uses s) ≡ p → act.may_cut i (w.hand b) ≡ q → act.no_list defers (act.list_field defers (value_at w.memory b)) ≡ r
          → holds s t w.log ≡ z → act.is_left (w.hand t) ≡ u → (if p && (q && (r && (z && not u))) then act.deferred_by defers size i s b t w (act.list_field defers (value_at w.memory t)) else None) ≡ Some n
          → Begins defers size i (Defer' s b t) w n
      by true true true true false p q r z u k = at p q r z u (act.list_field defers (value_at w.memory t)) refl k
      by false q0 r0 z0 u0 p q r z u k = absurd (cc k)
      by true false r0 z0 u0 p q r z u k = absurd (cc k)
      by true true false z0 u0 p q r z u k = absurd (cc k)
      by true true true false u0 p q r z u k = absurd (cc k)
      by true true true true true p q r z u k = absurd (cc k)

  pub own_is : (m : Mem T) (at : At) → act.is_own defers m at ≡ true → IsOwn defers m at
  own_is m (name.Root r) e = tt
  own_is m (name.Used r) e = tt
  own_is m (name.Slot s field) e = absurd (cc e)
  own_is m (name.Entry b field) e = absurd (cc e)
  own_is m (name.Word b field) e = by (value_at m b) refl e
    where
      differ : (value : T) (d : Option ℕ) → defers value ≡ d → act.is_own_word defers (Some d) field ≡ true → defers value ≡ Some field → ⊥
      differ value None f k q = absurd (cc (f, q))
      differ value (Some list) f k q = absurd (grind (arith, f, k, q))

      by : (o : Option T) → value_at m b ≡ o → act.is_own_word defers (act.list_field defers o) field ≡ true → IsOwn defers m (name.Word b field)
      by None f k = absurd (cc k)
      by (Some value) f k = (value, f, differ value (defers value) refl k)

  pub link_is : (hand : ℕ → Hand) (at : At) → act.is_left_link defers hand at ≡ true → (b : ℕ) × (at ≡ name.Entry b NEXT) × ((h : ℕ) × (hand b ≡ LeftTo h))
  link_is hand (name.Root r) e = absurd (cc e)
  link_is hand (name.Used r) e = absurd (cc e)
  link_is hand (name.Slot s field) e = absurd (cc e)
  link_is hand (name.Word b field) e = absurd (cc e)
  link_is hand (name.Entry b field) e =
      let k = and_both (field == NEXT) (act.is_left (hand b)) e in (b, ap (name.Entry b) (grind (arith, k.0)), left_is (hand b) k.1)

  pub has_word : (d : Option ℕ) (words : ℕ) → act.has_list_word defers d words ≡ true → HasListWord defers d words
  has_word None words e = tt
  has_word (Some field) words e = grind (arith, e)

  same_so : (d : Option ℕ) (o : Option (Option ℕ)) → act.same_list defers d o ≡ true → o ≡ Some d
  same_so None None e = absurd (cc e)
  same_so None (Some None) e = refl
  same_so None (Some (Some k)) e = absurd (cc e)
  same_so (Some j) None e = absurd (cc e)
  same_so (Some j) (Some None) e = absurd (cc e)
  same_so (Some j) (Some (Some k)) e = ap (λ x. Some (Some x)) (grind (arith, e))

  pub same_list_is : (value : T) (o : Option T) → act.same_list defers (defers value) (act.list_field defers o) ≡ true → (before : T) → o ≡ Some before → defers value ≡ defers before
  same_list_is value o e before is =
      sym (same_some (defers before) (defers value) (ap (act.list_field defers) (sym is) ∙ same_so (defers value) (act.list_field defers o) e))
