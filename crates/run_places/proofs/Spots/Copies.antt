-- Where a pair lies once it was copied, and once the root has come to a later table.
use Rattle.std.specs.Prelude.{◌≡◌, ◌≢◌, ℕ, suc, ◌<◌, ◌≤◌, nat_lt, Bool, true, false, Some, if◌then◌else◌}
use Rattle.std.proofs.Common.{refl, ap, sym, subst, ◌∙◌, arith, inl, inr}
use Rattle.std.proofs.lemmas.Bool.{cases_eq, cases_lt}
use Rattle.run_shows.specs.Given.TablesDeclared.status.TheConstants.Status.{ABORTED}
use Rattle.run_shows.specs.Given.RunsDeclared.effect.Spot.{Spot}
use Rattle.run_shows.specs.Given.SchedulesEffects.{later}
use Rattle.run_shows.specs.Given.RuleChart.{Phase, Still, Copying, Copied, Place, Empty, Holds, Share, Counted, Chart, put_in, is_settled}
use Rattle.run_shows.specs.Given.RuleRule.{IsLawful, is_of, names, is_past, is_over, Agrees, Rule}
use Rattle.run_shows.specs.Given.RuleMoves.{Puts, PutsLate, Promotes, lent_place, Allowed, after}
use Rattle.run_shows.proofs.Given.RuleMoves.StoodAlone.{alone_there}
use Rattle.run_shows.proofs.Given.RuleMoves.Writes.{put_in_here, put_in_one}
use Rattle.run_places.specs.Spots.Spots.{ThePair, named_by, spot_in, LiesAt, IsCopiedTo}
use Rattle.run_places.proofs.Spots.Names.{holds_is}
use Rattle.run_places.proofs.Spots.Moves.{names_none, named_made}
use Rattle.run_shows.proofs.Given.General.{less_false as not_less, less_true as less_is}

-- a copy leads forward, and one that comes late leaves the pair where it is
pub later_is : (s t : Spot) → s.turn < t.turn → later s t ≡ t
later_is s t l = ap (λ (q : Bool). if q then t else s) (less_is s.turn t.turn l)

pub later_stays : (s t : Spot) → t.turn ≤ s.turn → later s t ≡ s
later_stays s t l = ap (λ (q : Bool). if q then t else s) (not_less s.turn t.turn l)

-- a pair that was not copied from its place is not settled there
unsettled : (n : ℕ) (phase : Phase) (b : Bool) → phase ≢ Copied → is_settled (Holds n phase b) ≡ false
unsettled n Still b no_copy = refl
unsettled n Copying b no_copy = refl
unsettled n Copied b no_copy = absurd (no_copy refl)

module _ {K : Type 0} (same : K → K → Bool) (spot : ℕ → K → ℕ → ℕ) (lawful : IsLawful same spot) (c : Chart K) where
  -- the same pair is copied, which has this key
  its_key : (incremental : Bool) (i : ℕ) (k : K) (n o : ℕ) (b x : Bool) → c.place c.first i ≡ Holds n Copying b → c.place c.first i ≡ Holds o Copying x → c.key o ≡ Some k → c.key n ≡ Some k
  its_key incremental i k n o b x held held2 key = let o_is : o ≡ n = cc (held, held2) in ap c.key (sym o_is) ∙ key

  module _ (rule : Rule same spot true c) where
    -- in incremental mode a pair is copied from the root
    pub copied_from_root : (caller i t : ℕ) (k : K) (j n : ℕ) (b : Bool) → Allowed same spot true (Puts caller i t k j) c → c.place c.first i ≡ Holds n Copying b → (s : Spot) (born : ℕ)
        → LiesAt c true n s born → s.turn ≡ c.first
    copied_from_root caller i t k j n b allowed held s born h = elim (cases_lt c.first s.turn) as (λ _. s.turn ≡ c.first) [
      | inl ahead ↦ absurd (
          let it = holds_is (c.place s.turn s.place) n (nat_lt born s.turn) h.1 in
          let no_name = sym (ap (names same spot true c.key k) it.1) ∙ allowed.7.1 s.turn s.place ahead in
          let its_own = ap (is_of same spot true k) key ∙ lawful.classes.refl k in
          cc (no_name, its_own))
      | inr l ↦ (let m = h.0 in omega (arith, l, m))
    ]
      where
        key : c.key n ≡ Some k
        key = let it = allowed.6 in its_key true i k n it.0 b it.1 held it.2 it.3

    -- it lies where it was copied to
    pub puts_lies : (caller i t : ℕ) (k : K) (j n : ℕ) (b : Bool) → Allowed same spot true (Puts caller i t k j) c → c.place c.first i ≡ Holds n Copying b → (s : Spot) (born : ℕ) → born ≤ c.first
        → LiesAt c true n s born → LiesAt (after spot true (Puts caller i t k j) c) true n (later s (spot_in t (spot (c.len t) k j))) born
    puts_lies caller i t k j n b allowed held s born before h =
        subst (λ (x : Spot). LiesAt (after spot true (Puts caller i t k j) c) true n x born) (sym (later_is s (spot_in t at) (let l = allowed.0 in let r = root in omega (arith, l, r)))) (
          (let l = allowed.0 in omega (arith, l)),
          ap named_by (put_in_here c.place t at lent) ∙ ap (λ (p : Place). named_by (lent_place spot true p)) held ∙ ap (ThePair n) (sym (less_is born t (let l = allowed.0 in omega (arith, l, before)))),
          put_in_one (λ (u : ℕ) (y : ℕ) (w : Place). (x : Bool) → named_by w ≡ ThePair n x → u ≤ t) c.place t at lent (λ x e. omega arith)
              (λ u y x e. let l = h.2 u y x e in let r = root in let a = allowed.0 in omega (arith, l, r, a)),
        )
      where
        at : ℕ
        at = spot (c.len t) k j

        lent : Place
        lent = lent_place spot true (c.place c.first i)

        root : s.turn ≡ c.first
        root = copied_from_root caller i t k j n b allowed held s born h

    -- and no pair of the map lies in a table that the root passes
    pub promotes_lies : (t n : ℕ) → Allowed same spot true (Promotes t) c → c.current n ≡ true → (s : Spot) (born : ℕ) → LiesAt c true n s born → LiesAt (after spot true (Promotes t) c) true n s born
    promotes_lies t n allowed current s born h = (past, h.1, h.2)
      where
        past : t ≤ s.turn
        past = elim (cases_lt c.first s.turn) as (λ _. t ≤ s.turn) [
          | inl ahead ↦ (let next = allowed.3 in omega (arith, next, ahead))
          | inr l ↦ absurd (by l (rule.common.stands n current))
        ]
          where
            by : s.turn ≤ c.first → (u : ℕ) × (i : ℕ) × (phase : Phase) × (b : Bool) × (c.place u i ≡ Holds n phase b) × (phase ≢ Copied) × (c.first ≤ u) → ⊥
            by l (u, i, phase, b, held, no_copy, home) = cc (done, not_done)
              where
                here : u ≡ c.first
                here = let m = h.2 u i b (ap named_by held) in omega (arith, m, l, home)

                held_here : c.place c.first i ≡ Holds n phase b
                held_here = ap (λ (x : ℕ). c.place x i) (sym here) ∙ held

                made : c.first < c.past
                made = let a = allowed.0 in let m = allowed.1 in omega (arith, a, m)

                within : i < c.len c.first
                within = elim (cases_lt i (c.len c.first)) as (λ _. i < c.len c.first) [
                  | inl m ↦ m
                  | inr m ↦ absurd (let none = rule.common.outside c.first i made m in cc (none, held_here))
                ]

                counted : c.share (suc c.first) i ≡ Counted
                counted = ap (λ (x : ℕ). c.share x i) (sym allowed.3) ∙ allowed.2 i within

                done : is_settled (c.place c.first i) ≡ true
                done = subst (λ (x : Share). Agrees x (c.place c.first i)) counted (rule.in_mode.shares i within)

                not_done : is_settled (c.place c.first i) ≡ false
                not_done = ap is_settled held_here ∙ unsettled n phase b no_copy

  module _ (rule : Rule same spot false c) where
    -- what an empty place gets leaves all other places
    forward : (n t i : ℕ) (v : Place) → c.place t i ≡ Empty false → (u y : ℕ) (b : Bool) → named_by (c.place u y) ≡ ThePair n b → named_by (put_in c.place t i v u y) ≡ ThePair n b
    forward n t i v empty u y b =
        put_in_one (λ (x : ℕ) (z : ℕ) (w : Place). named_by (c.place x z) ≡ ThePair n b → named_by w ≡ ThePair n b) c.place t i v (λ e. absurd (names_none (c.place t i) false n empty b e)) (λ x z e. e) u y

    -- in blocking mode a copy is told as the newest
    module _ (caller i t : ℕ) (k : K) (j n : ℕ) (b : Bool) (allowed : Allowed same spot false (Puts caller i t k j) c) (held : c.place c.first i ≡ Holds n Copying b) (copy : Spot) (h : IsCopiedTo c n copy) where
      abbrev at : ℕ
      at = spot (c.len t) k j

      abbrev lent : Place
      lent = lent_place spot false (c.place c.first i)

      lent_is : named_by lent ≡ ThePair n false
      lent_is = ap (λ (p : Place). named_by (lent_place spot false p)) held

      -- the table did not name it yet
      not_yet : (y : ℕ) (x : Bool) → c.status t ≢ ABORTED → named_by (c.place t y) ≡ ThePair n x → ⊥
      not_yet y x live e =
          let it = holds_is (c.place t y) n x e in
          let from = rule.in_mode.targets t y n it.0 x allowed.0 live it.1 in
          let same_place : from.0 ≡ i = (alone_there same spot false lawful c rule.common c.first from.0 i n Copying Copying false b rule.common.live from.2 held).0 in
          let over : is_over (c.share t i) ≡ true = ap (λ (z : ℕ). is_over (c.share t z)) (sym same_place) ∙ from.3 in
          let claimed : is_over (c.share t i) ≡ false = ap is_over allowed.7 in
          cc (over, claimed)

      before : c.status t ≢ ABORTED → copy.turn < t
      before live = elim (cases_lt copy.turn t) as (λ _. copy.turn < t) [
        | inl l ↦ l
        | inr l ↦ absurd (
            let ahead = allowed.0 in
            let there = h.there (omega (arith, ahead, l)) in
            elim (cases_eq copy.turn t) as (λ _. ⊥) [
              | inl e ↦ not_yet copy.place there.0 live (ap (λ (x : ℕ). named_by (c.place x copy.place)) (sym e) ∙ there.1)
              | inr ne ↦ live (rule.in_mode.aborted t ahead (let made = named_made same spot false c rule copy.turn copy.place n there.0 there.1 in omega (arith, made, l, ne)))
            ])
      ]

      last : (u : ℕ) → c.first < u → c.status u ≢ ABORTED → t ≤ u
      last u ahead live = elim (cases_lt u t) as (λ _. t ≤ u) [
        | inl l ↦ absurd (live (rule.in_mode.aborted u ahead (let made = allowed.1 in omega (arith, made, l))))
        | inr l ↦ l
      ]

      pub puts_copied : IsCopiedTo (after spot false (Puts caller i t k j) c) n (later copy (spot_in t at))
      puts_copied = record {
        is = λ u y x ahead live e. put_in_one (λ (u : ℕ) (y : ℕ) (w : Place). c.first < u → c.status u ≢ ABORTED → named_by w ≡ ThePair n x → later copy (spot_in t at) ≡ spot_in u y) c.place t at lent
            (λ ahead live e. later_is copy (spot_in t at) (before live))
            (λ u y ahead live e. let was = h.is u y x ahead live e in
            later_stays copy (spot_in t at) (let l = last u ahead live in let z = ap (λ (s : Spot). s.turn) was in omega (arith, l, z)) ∙ was) u y ahead live e;
        there = elim (cases_lt copy.turn t) as (λ _. c.first < (later copy (spot_in t at)).turn → Stands (later copy (spot_in t at))) [
          | inl l ↦ λ ahead. subst Stands (sym (later_is copy (spot_in t at) l)) (false, ap named_by (put_in_here c.place t at lent) ∙ lent_is)
          | inr l ↦ λ ahead. (let e = later_stays copy (spot_in t at) l in
              let there = h.there (subst (λ (s : Spot). c.first < s.turn) e ahead) in
              subst Stands (sym e) (there.0, forward n t at lent allowed.4 copy.turn copy.place there.0 there.1))
        ];
      }
        where
          Stands : Spot → Type 0
          Stands s = (x : Bool) × (named_by (put_in c.place t at lent s.turn s.place) ≡ ThePair n x)

      pub puts_stays : (s : Spot) (born : ℕ) → LiesAt c false n s born → LiesAt (after spot false (Puts caller i t k j) c) false n s born
      puts_stays s born lies = (lies.0, forward n t at lent allowed.4 s.turn s.place false lies.1)

    -- one that comes late is none of a later table
    module _ (t i n : ℕ) (allowed : Allowed same spot false (PutsLate t i n) c) where
      pub late_stays : (s : Spot) (born : ℕ) → LiesAt c false n s born → LiesAt (after spot false (PutsLate t i n) c) false n s born
      late_stays s born lies = (lies.0, forward n t i (Holds n Still false) allowed.4 s.turn s.place false lies.1)

      pub late_copied : (copy : Spot) → IsCopiedTo c n copy → IsCopiedTo (after spot false (PutsLate t i n) c) n (later copy (spot_in t i))
      late_copied copy h = record {
        is = λ u y x ahead live e. put_in_one (λ (u : ℕ) (y : ℕ) (w : Place). c.first < u → c.status u ≢ ABORTED → named_by w ≡ ThePair n x → later copy (spot_in t i) ≡ spot_in u y) c.place t i (Holds n Still false)
            (λ ahead live e. absurd (let l = allowed.1 in omega (arith, ahead, l)))
            (λ u y ahead live e. let was = h.is u y x ahead live e in
            later_stays copy (spot_in t i) (let l = allowed.1 in let z = ap (λ (s : Spot). s.turn) was in omega (arith, ahead, l, z)) ∙ was) u y ahead live e;
        there = elim (cases_lt copy.turn t) as (λ _. c.first < (later copy (spot_in t i)).turn → Stands (later copy (spot_in t i))) [
          | inl l ↦ λ ahead. absurd (let e = later_is copy (spot_in t i) l in let z = subst (λ (s : Spot). c.first < s.turn) e ahead in let m = allowed.1 in omega (arith, z, m))
          | inr l ↦ λ ahead. (let e = later_stays copy (spot_in t i) l in
              let there = h.there (subst (λ (s : Spot). c.first < s.turn) e ahead) in
              subst Stands (sym e) (there.0, forward n t i (Holds n Still false) allowed.4 copy.turn copy.place there.0 there.1))
        ];
      }
        where
          Stands : Spot → Type 0
          Stands s = (x : Bool) × (named_by (put_in c.place t i (Holds n Still false) s.turn s.place) ≡ ThePair n x)

    -- as the root comes to a table, each pair of the map has its newest copy there
    module _ (t n : ℕ) (allowed : Allowed same spot false (Promotes t) c) (s copy : Spot) (born : ℕ) (lies : LiesAt c false n s born) (h : IsCopiedTo c n copy) where
      live : c.status t ≢ ABORTED
      live given_up = let lost = rule.in_mode.given_up t allowed.0 given_up in let counted = allowed.2 lost.0 lost.1 in let is = lost.2 in cc (counted, is)

      its : (phase : Phase) × (c.place s.turn s.place ≡ Holds n phase false)
      its = holds_is (c.place s.turn s.place) n false lies.1

      held : c.place c.first s.place ≡ Holds n its.0 false
      held = ap (λ (x : ℕ). c.place x s.place) (sym lies.0) ∙ its.1

      within : s.place < c.len c.first
      within = elim (cases_lt s.place (c.len c.first)) as (λ _. s.place < c.len c.first) [
        | inl m ↦ m
        | inr m ↦ absurd (let none = rule.common.outside c.first s.place (let a = allowed.0 in let l = allowed.1 in omega (arith, a, l)) m in cc (none, held))
      ]

      pub there : (i : ℕ) × (c.place t i ≡ Holds n Still false)
      there = (rule.in_mode.copies t s.place allowed.0 live (ap is_past (allowed.2 s.place within))).1 n its.0 false held

      pub copy_is : copy ≡ spot_in t there.0
      copy_is = h.is t there.0 false allowed.0 live (ap named_by there.1)

      pub promotes_there : LiesAt (after spot false (Promotes t) c) false n copy born
      promotes_there = (ap (λ (x : Spot). x.turn) copy_is, ap (λ (x : Spot). named_by (c.place x.turn x.place)) copy_is ∙ ap named_by there.1)

      pub promotes_copied : IsCopiedTo (after spot false (Promotes t) c) n copy
      promotes_copied = record {
        is = λ u y x ahead alive e. h.is u y x (let a = allowed.0 in omega (arith, a, ahead)) alive e;
        there = λ ahead. h.there (let a = allowed.0 in omega (arith, a, ahead));
      }

-- a pair that is new lies where it was stored, and has no copy
module _ {K : Type 0} (same : K → K → Bool) (spot : ℕ → K → ℕ → ℕ) (c d : Chart K) (t i : ℕ) (place : d.place ≡ put_in c.place t i (Holds c.stored Still false)) (first : d.first ≡ c.first)
    (none : (u y : ℕ) (b : Bool) → named_by (c.place u y) ≡ ThePair c.stored b → ⊥) where
  here : named_by (d.place t i) ≡ ThePair c.stored false
  here = ap (λ (f : ℕ → ℕ → Place). named_by (f t i)) place ∙ ap named_by (put_in_here c.place t i (Holds c.stored Still false))

  pub alone : (u y : ℕ) (b : Bool) → named_by (d.place u y) ≡ ThePair c.stored b → u ≡ t
  alone u y b e =
      put_in_one (λ (x : ℕ) (z : ℕ) (w : Place). named_by w ≡ ThePair c.stored b → x ≡ t) c.place t i (Holds c.stored Still false) (λ f. refl) (λ x z f. absurd (none x z b f)) u y
      (sym (ap (λ (f : ℕ → ℕ → Place). named_by (f u y)) place) ∙ e)

  pub new_lies : (q : Bool) → c.first ≤ t → (q ≡ false → t ≡ c.first) → LiesAt d q c.stored (spot_in t i) t
  new_lies true home root = ((let e = first in omega (arith, e, home)), here ∙ ap (ThePair c.stored) (sym (not_less t t (omega arith))), λ u y b e. (let z = alone u y b e in omega (arith, z)))
  new_lies false home root = (root refl ∙ sym first, here)

  pub new_copied : t ≡ c.first → IsCopiedTo d c.stored (spot_in 0 0)
  new_copied root = record {
    is = λ u y b ahead live e. absurd (let z = alone u y b e in omega (arith, z, ahead, root, first));
    there = λ ahead. absurd (omega (arith, ahead));
  }
