-- Each step of the end of a map that is not its last leaves less to be done.
use Rattle.std.specs.Prelude.{◌-◌, ◌/◌, ◌^◌, if◌then◌else◌}
use Rattle.std.proofs.Common.{◌≡◌, ℕ, suc, ◌+◌, ◌*◌, ◌<◌, ◌≤◌, Bool, true, false, List, [], ◌∷◌, ◌++◌, ◌⊎◌, length, inl, inr, refl, sym, ap, subst, ◌∙◌, arith, eq-eqb}
use Rattle.std.proofs.lemmas.Bool.{cases_eq, ne_eqb}
use Rattle.std.proofs.lemmas.List.{length-append}
use Rattle.run_shows.specs.Given.SeizeWordsMem.{Took, value_at}
use Rattle.run_shows.specs.Given.SeizeWordsPlan.{Steps}
use Rattle.run_shows.specs.Given.SeizeDeclared.rows.settle.Settled.{Settled}
use Rattle.run_shows.specs.Given.SeizeDeclared.rows.settle.Settled.TheVariants as settled
use Rattle.run_shows.specs.Given.SeizeWorld.{World, times}
use Rattle.run_shows.specs.Given.TablesDeclared.node.Node.{Node}
use Rattle.run_shows.specs.Given.TablesDeclared.table.Table.{Table}
use Rattle.run_shows.specs.Given.RawEndMap.{end_map_plan}
use Rattle.run_shows.specs.Given.RawDeclared.machines.end_map.EndMap.{EndMap}
use Rattle.run_shows.specs.Given.RawDeclared.machines.end_map.Ending.{Ending}
use Rattle.run_shows.specs.Given.RawDeclared.machines.end_map.Ending.TheVariants as at
use Rattle.owner_facts.specs.Descends.Numbers.{tables_ahead, blocks_ahead}
use Rattle.owner_facts.specs.Given.FinishesEndings.{Finishing, FinishingFacts}
use Rattle.owner_facts.specs.Given.FinishesFactsEnds.{EndingFacts, back_of, wait_before}
use Rattle.owner_facts.specs.Maps.MeasuresEnds.{stage, most_blocks, list_len, steps_left}
use Rattle.owner_facts.proofs.Given.FinishesEnds.CountedBlocks.{times_here, some_here, some_last}
use Rattle.owner_facts.proofs.Given.FinishesEnds.OrdersOn.{back_same}
use Rattle.owner_facts.proofs.Descends.Lists.{length_read}
use Rattle.owner_facts.proofs.Descends.Points.{To, falls_at, joined_once}
use Rattle.owner_facts.proofs.Maps.Ends.Lower.{lower_in_one}
use Rattle.many_acts.specs.Lefts.{behind, along_ahead, places_ahead, left_at, left_of, Lessens, IsOn, GetsOn, EndsGetOn}

-- in a list in which none stands twice, what stands behind one of it
behind_is : (x : ℕ) (before rest : List ℕ) → ((y : ℕ) → times y (before ++ x ∷ rest) ≤ 1) → behind x (before ++ x ∷ rest) ≡ rest
behind_is x [] rest once = ap (λ (b : Bool). if b then rest else behind x rest) (eq-eqb x x refl)
behind_is x (y ∷ before) rest once = elim (cases_eq y x) as (λ _. behind x (y ∷ before ++ x ∷ rest) ≡ rest) [
  | inl e ↦ absurd (twice e)
  | inr ne ↦
      ap (λ (b : Bool). if b then before ++ x ∷ rest else behind x (before ++ x ∷ rest)) (ne_eqb y x ne) ∙ behind_is x before rest (λ z. fewer z y (before ++ x ∷ rest) (once z))
]
  where
    twice : y ≡ x → ⊥
    twice e =
        let some : 0 < times x (before ++ x ∷ rest) = some_last x before (x ∷ rest) (some_here x rest) in
        let more = times_here x (before ++ x ∷ rest) in
        let few = subst (λ (z : ℕ). times x (z ∷ before ++ x ∷ rest) ≤ 1) e (once x) in omega (arith, some, more, few)

    fewer : (z v : ℕ) (l : List ℕ) → times z (v ∷ l) ≤ 1 → times z l ≤ 1
    fewer z v l few = grind (arith, few)

-- Of three numbers the first is lower, or the next one.
abbrev IsLower : ℕ → ℕ → ℕ → ℕ → ℕ → ℕ → Type 0
IsLower s2 t2 p2 s t p = (s2 < s) ⊎ ((s2 ≡ s) × ((t2 < t) ⊎ ((t2 ≡ t) × ((p2 < p) ⊎ ((p2 ≡ p) × ⊥)))))

-- so it is with another last one
lower_by : (s2 t2 p2 o2 s t p o : ℕ) → (s2 ≡ s → p2 < p → o2 < o) → IsLower s2 t2 p2 s t p → IsLower s2 t2 o2 s t o
lower_by s2 t2 p2 o2 s t p o last (inl l) = inl l
lower_by s2 t2 p2 o2 s t p o last (inr (same_first, inl l)) = inr (same_first, inl l)
lower_by s2 t2 p2 o2 s t p o last (inr (same_first, inr (same_next, inl l))) = inr (same_first, inr (same_next, inl (last same_first l)))
lower_by s2 t2 p2 o2 s t p o last (inr (same_first, inr (same_next, inr (same_last, none)))) = absurd none

module _ {K V : Type 0} (same : K → K → Bool) (batch_size : ℕ) (w : World (Node K V)) (i : ℕ) (f : Finishing K V) (facts : FinishingFacts same batch_size w i f) where
  abbrev Point : Ending → Type 0
  Point spot = EndingFacts f.setting f.chart f.blocks facts.lists false i f.hash w f.machine facts.past f.back spot

  -- its numbers are small enough for one
  abbrev AreFew : Ending → Type 0
  AreFew spot = (stage spot < 9) × (tables_ahead f.chart.past f.machine spot ≤ f.chart.past) × (places_ahead f.machine spot < f.chart.past + 2 ^ 49)

  are_few : (spot : Ending) → Point spot → AreFew spot
  are_few at.Reads point = (omega arith, omega arith, omega arith)
  are_few at.Words (t, here, inside, all) = (
    omega arith,
    omega arith,
    (let most = (facts.stood.map.map.shows.sized t here.here.made).most in let is = ap (λ (x : Table). x.len) here.here.table in omega (arith, most, is)),
  )
  are_few (at.Takes pair) point = (omega arith, omega arith, omega arith)
  are_few at.Nexts point = (omega arith, omega arith, omega arith)
  are_few at.Carries point = (omega arith, omega arith, omega arith)
  are_few (at.Joins pair) point = (omega arith, omega arith, omega arith)
  are_few (at.Follows pair) point = (omega arith, omega arith, omega arith)
  are_few (at.Gives pair next) point = (omega arith, omega arith, omega arith)
  are_few at.Afters point = (omega arith, omega arith, omega arith)
  are_few (at.Drops next) point = (omega arith, omega arith, omega arith)
  are_few at.Shards point = (omega arith, omega arith, omega arith)
  are_few at.Sets point = (omega arith, omega arith, omega arith)
  are_few at.Frees point = (omega arith, omega arith, omega arith)
  are_few at.Over point = absurd point

  is_on : (spot : Ending) → Point spot → IsOn spot
  is_on at.Over point = point
  is_on _ point = tt

  -- of a list as much is left as the memory has
  along_is : (pair : ℕ) → Point (at.Follows pair) → steps_left w.memory f.machine (at.Follows pair) ≡ suc (along_ahead f.waits (at.Follows pair))
  along_is pair (t, here, is_past, inl (q, rest, link, g)) = absurd (let own = g.owned in cc own)
  along_is pair (t, here, is_past, inr j) =
      ap (λ (x : ℕ). list_len w.memory x (most_blocks w.memory)) j.pair_is ∙ length_read w.memory f.machine.first j.here j.before j.rest once j.there
      ∙ sym (ap (λ (l : List ℕ). suc (length l)) rests)
    where
      once : (x : ℕ) → times x (j.before ++ j.here ∷ j.rest) ≤ 1
      once = joined_once same f.hash facts.lawful f.setting f.chart f.blocks facts.lists false i f.began facts.stood w f.machine facts.past f.back facts.facts t pair j is_past

      waits : f.waits ≡ j.before ++ j.here ∷ j.rest
      waits = facts.waits_are ∙ ap (wait_before f.setting f.chart f.blocks facts.lists false) is_past ∙ j.waiting

      block_is : pair / 2048 ≡ j.here
      block_is = let e = j.pair_is in omega (arith, e)

      rests : behind (pair / 2048) f.waits ≡ j.rest
      rests =
          ap (λ (l : List ℕ). behind (pair / 2048) l) waits
          ∙ subst (λ (b : ℕ). behind b (j.before ++ j.here ∷ j.rest) ≡ j.rest) (sym block_is) (behind_is j.here j.before j.rest once)

-- the end of a map has taken a step, and stands so in this world then
module _ {K V : Type 0} (same : K → K → Bool) (batch_size : ℕ) (w : World (Node K V)) (i : ℕ) (f : Finishing K V) (facts : FinishingFacts same batch_size w i f) (w2 : World (Node K V)) (e : EndMap)
    (waits : List ℕ) where
  falls : (end : EndMap × Settled (Node K V)) → Steps Took value_at w.memory (end_map_plan f.machine) w2.memory end
      → To same f.hash facts.lawful f.setting f.chart f.blocks facts.lists false i f.began facts.stood w f.machine facts.past f.back facts.facts f.machine.stands w2.memory end
  falls end s = falls_at same f.hash facts.lawful f.setting f.chart f.blocks facts.lists false i f.began facts.stood w f.machine facts.past f.back facts.facts f.machine.stands
      facts.facts.root facts.facts.point w2.memory end s

  -- it goes on
  module _ (facts2 : FinishingFacts same batch_size w2 i (record f { machine = e; waits = waits })) where
    abbrev g : Finishing K V
    g = record f { machine = e; waits = waits }

    -- what is ahead is less
    abbrev IsLess : Ending → Ending → Type 0
    IsLess p q = IsLower (stage q) (tables_ahead f.chart.past e q) (steps_left w2.memory e q) (stage p) (tables_ahead f.chart.past f.machine p) (steps_left w.memory f.machine p)

    -- and so is what is left in all, if its places are
    lower : (p q : Ending) → Point same batch_size w2 i g facts2 q
        → (stage q ≡ stage p → steps_left w2.memory e q < steps_left w.memory f.machine p → places_ahead e q < places_ahead f.machine p) → IsLess p q → left_at g q < left_at f p
    lower p q point2 places less =
        let few = are_few same batch_size w2 i g facts2 q point2 in
        lower_in_one f.chart.past _ _ _ _ _ _ _ _ few.0 few.1 few.2
        (inr (
          refl,
          lower_by (stage q) (tables_ahead f.chart.past e q) (steps_left w2.memory e q) (places_ahead e q) (stage p) (tables_ahead f.chart.past f.machine p) (steps_left w.memory f.machine p)
              (places_ahead f.machine p) places less,
        ))

    -- at the places of a table
    places_less : (q : Ending) → stage q ≡ 7 → steps_left w2.memory e q < places_ahead f.machine at.Words → places_ahead e q < places_ahead f.machine at.Words
    places_less at.Words is l = l
    places_less at.Nexts is l = l
    places_less at.Reads is l = absurd (cc is)
    places_less (at.Takes pair) is l = absurd (cc is)
    places_less at.Carries is l = absurd (cc is)
    places_less (at.Joins pair) is l = absurd (cc is)
    places_less (at.Follows pair) is l = absurd (cc is)
    places_less (at.Gives pair next) is l = absurd (cc is)
    places_less at.Afters is l = absurd (cc is)
    places_less (at.Drops next) is l = absurd (cc is)
    places_less at.Shards is l = absurd (cc is)
    places_less at.Sets is l = absurd (cc is)
    places_less at.Frees is l = absurd (cc is)
    places_less at.Over is l = absurd (cc is)

    -- along a list the list is shorter
    shorter : (a b : ℕ) → Point same batch_size w i f facts (at.Follows a) → Point same batch_size w2 i g facts2 (at.Follows b) → IsLess (at.Follows a) (at.Follows b)
        → along_ahead waits (at.Follows b) < along_ahead f.waits (at.Follows a)
    shorter a b point point2 (inl l) = absurd (omega (arith, l))
    shorter a b point point2 (inr (same_stage, inl l)) = absurd (omega (arith, l))
    shorter a b point point2 (inr (same_stage, inr (same_tables, inl l))) =
        let long = along_is same batch_size w i f facts a point in let long2 = along_is same batch_size w2 i g facts2 b point2 in omega (arith, l, long, long2)
    shorter a b point point2 (inr (same_stage, inr (same_tables, inr (same_steps, none)))) = absurd none

    none_less : {X : Type 0} (x : ℕ) → x < 0 → X
    none_less x l = absurd (omega (arith, l))

    lessens : (p q : Ending) → Point same batch_size w i f facts p → Point same batch_size w2 i g facts2 q → IsLess p q
        → Lessens p q (left_at f p, along_ahead f.waits p) (left_at g q, along_ahead waits q)
    lessens at.Reads q point point2 less = lower at.Reads q point2 (λ is l. none_less _ l) less
    lessens at.Words q point point2 less = lower at.Words q point2 (λ is l. places_less q is l) less
    lessens (at.Takes pair) q point point2 less = lower (at.Takes pair) q point2 (λ is l. none_less _ l) less
    lessens at.Nexts q point point2 less = lower at.Nexts q point2 (λ is l. none_less _ l) less
    lessens at.Carries q point point2 less = lower at.Carries q point2 (λ is l. none_less _ l) less
    lessens (at.Joins pair) q point point2 less = lower (at.Joins pair) q point2 (λ is l. none_less _ l) less
    lessens (at.Follows a) (at.Follows b) point point2 less = (refl, shorter a b point point2 less)
    lessens (at.Follows a) at.Reads point point2 less = lower (at.Follows a) at.Reads point2 (λ is l. absurd (cc is)) less
    lessens (at.Follows a) at.Words point point2 less = lower (at.Follows a) at.Words point2 (λ is l. absurd (cc is)) less
    lessens (at.Follows a) (at.Takes pair) point point2 less = lower (at.Follows a) (at.Takes pair) point2 (λ is l. absurd (cc is)) less
    lessens (at.Follows a) at.Nexts point point2 less = lower (at.Follows a) at.Nexts point2 (λ is l. absurd (cc is)) less
    lessens (at.Follows a) at.Carries point point2 less = lower (at.Follows a) at.Carries point2 (λ is l. absurd (cc is)) less
    lessens (at.Follows a) (at.Joins pair) point point2 less = lower (at.Follows a) (at.Joins pair) point2 (λ is l. absurd (cc is)) less
    lessens (at.Follows a) (at.Gives pair next) point point2 less = lower (at.Follows a) (at.Gives pair next) point2 (λ is l. absurd (cc is)) less
    lessens (at.Follows a) at.Afters point point2 less = lower (at.Follows a) at.Afters point2 (λ is l. absurd (cc is)) less
    lessens (at.Follows a) (at.Drops next) point point2 less = lower (at.Follows a) (at.Drops next) point2 (λ is l. absurd (cc is)) less
    lessens (at.Follows a) at.Shards point point2 less = lower (at.Follows a) at.Shards point2 (λ is l. absurd (cc is)) less
    lessens (at.Follows a) at.Sets point point2 less = lower (at.Follows a) at.Sets point2 (λ is l. absurd (cc is)) less
    lessens (at.Follows a) at.Frees point point2 less = lower (at.Follows a) at.Frees point2 (λ is l. absurd (cc is)) less
    lessens (at.Follows a) at.Over point point2 less = absurd point2
    lessens (at.Gives pair next) q point point2 less = lower (at.Gives pair next) q point2 (λ is l. none_less _ l) less
    lessens at.Afters q point point2 less = lower at.Afters q point2 (λ is l. none_less _ l) less
    lessens (at.Drops next) q point point2 less = lower (at.Drops next) q point2 (λ is l. none_less _ l) less
    lessens at.Shards q point point2 less = lower at.Shards q point2 (λ is l. none_less _ l) less
    lessens at.Sets q point point2 less = lower at.Sets q point2 (λ is l. none_less _ l) less
    lessens at.Frees q point point2 less = lower at.Frees q point2 (λ is l. none_less _ l) less
    lessens at.Over q point point2 less = absurd point

    went : Steps Took value_at w.memory (end_map_plan f.machine) w2.memory (e, settled.Goes) → GetsOn {T = Node K V} f.machine (e, settled.Goes) (left_of f) (left_of g)
    went s = (is_on same batch_size w2 i g facts2 e.stands facts2.facts.point, lessens f.machine.stands e.stands facts.facts.point facts2.facts.point (falls (e, settled.Goes) s))

  -- it has reclaimed a block
  module _ (b : ℕ) (facts2 : FinishingFacts same batch_size w2 i (record f { machine = e; back = f.back ++ b ∷ []; waits = waits })) where
    abbrev then_f : Finishing K V
    then_f = record f { machine = e; back = f.back ++ b ∷ []; waits = waits }

    gave : (value : Node K V) → Steps Took value_at w.memory (end_map_plan f.machine) w2.memory (e, settled.Gave value) → GetsOn f.machine (e, settled.Gave value) (left_of f) (left_of then_f)
    gave value s =
        let few = are_few same batch_size w2 i then_f facts2 e.stands facts2.facts.point in
        (is_on same batch_size w2 i then_f facts2 e.stands facts2.facts.point, lower_in_one f.chart.past _ _ _ _ _ _ _ _ few.0 few.1 few.2 (inl (one_less (falls (e, settled.Gave value) s))))
      where
        all_is : length (back_of f.setting f.chart f.blocks facts.lists false) ≡ length (back_of f.setting f.chart f.blocks (λ t. []) false)
        all_is = ap length (sym (back_same f.setting f.chart f.blocks facts.lists (λ t. []) false refl))

        one_less : length f.back < length (back_of f.setting f.chart f.blocks facts.lists false) → blocks_ahead f (f.back ++ b ∷ []) < blocks_ahead f f.back
        one_less some = let long = length-append f.back (b ∷ []) in let is = all_is in omega (arith, some, long, is)

pub ends_get_on : {K : Type 0} (V : Type 0) (same : K → K → Bool) (batch_size : ℕ) → EndsGetOn V same batch_size
ends_get_on V same batch_size w w2 i f e waits facts = (
  λ facts2 s. went same batch_size w i f facts w2 e waits facts2 s,
  λ b value facts2 s. gave same batch_size w i f facts w2 e waits b facts2 value s,
)
