-- A step of the end of a map lowers its number, and nothing that others do changes that.
use Rattle.std.specs.Prelude.{Some}
use Rattle.std.proofs.Common.{◌≡◌, ℕ, suc, ◌<◌, ◌≤◌, Bool, false, List, [], ◌∷◌, ◌++◌, length, inl, inr, refl, sym, ap, subst, ◌∙◌, arith}
use Rattle.std.proofs.lemmas.List.{length-append}
use Rattle.many_maps.specs.Given.SeizeWordsMem.{Mem, Took, value_at}
use Rattle.many_maps.specs.Given.SeizeWordsPlan.{Steps}
use Rattle.many_maps.specs.Given.SeizeWorld.{World, times, with_at}
use Rattle.many_maps.specs.Given.SeizeDeclared.advance.Advance.TheVariants as progress
use Rattle.many_maps.specs.Given.SeizeDeclared.rows.settle.Settled.{Settled}
use Rattle.many_maps.specs.Given.SeizeDeclared.rows.settle.Settled.TheVariants as settled
use Rattle.many_maps.specs.Given.TablesDeclared.node.Node.{Node}
use Rattle.many_maps.specs.Given.RawEndMap.{end_map_plan}
use Rattle.many_maps.specs.Given.RawDeclared.machines.end_map.EndMap.{EndMap}
use Rattle.many_maps.specs.Given.RawDeclared.machines.end_map.Ending.{Ending}
use Rattle.many_maps.specs.Given.RawDeclared.machines.end_map.Ending.TheVariants as at
use Rattle.many_maps.proofs.Given.PointsMaking.EndsSum.{sum_lowers}
use Rattle.many_maps.specs.Given.PointsMeasures.{IsBelow}
use Rattle.many_maps.specs.Given.PointsMeasuresTables.{number_of_sum}
use Rattle.many_maps.proofs.Given.CallersTogether.At.{at_same}
use Rattle.many_maps.specs.Given.ResizeDeclared.sum.Sum.{Sum}
use Rattle.many_maps.specs.Endings.{Finishing, FinishingFacts, FinishingOutcome, EndingsTogether, StepsOfEnding, waiting_by}
use Rattle.many_maps.specs.FactsEnds.{EndingFacts, Joins, back_of, wait_before}
use Rattle.many_maps.proofs.Ends.OrdersOn.{back_same}
use Rattle.owner_facts.specs.Maps.MeasuresEnds.{stage, most_blocks, list_len, steps_left}
use Rattle.owner_facts.proofs.Maps.Begins.MachinesEnd.{lowered_ends}
use Rattle.owner_facts.specs.Descends.ComeToAnEnd.{CountingGoes, CountingsEnd, continues_as, HasEnd, EndGoes, EndingsEnd}
use Rattle.owner_facts.specs.Descends.Numbers.{tables_ahead, blocks_ahead, number_of_ending, EndingNumbersAreAsMany}
use Rattle.owner_facts.specs.Descends.Falls.{CountingsFall, Lowers, EndingsFall, OthersLeaveEndings}
use Rattle.owner_facts.proofs.Descends.Lists.{length_read, rest_is}
use Rattle.owner_facts.proofs.Descends.Points.{To, falls_at, joined_once}

pub countings_fall : (K V : Type 0) → CountingsFall K V
countings_fall K V sum sum2 m m2 s = sum_lowers m sum m2 (sum2, progress.Goes) s refl

module _ {K V : Type 0} (same : K → K → Bool) (batch_size : ℕ) (w : World (Node K V)) (i : ℕ) (f : Finishing K V) (facts : FinishingFacts same batch_size w i f) where
  -- all that is to be reclaimed, whatever tables carry
  all_is : back_of f.setting f.chart f.blocks facts.lists false ≡ back_of f.setting f.chart f.blocks (λ t. []) false
  all_is = sym (back_same f.setting f.chart f.blocks facts.lists (λ t. []) false refl)

  falls : (m2 : Mem (Node K V)) (end : EndMap × Settled (Node K V)) → Steps Took value_at w.memory (end_map_plan f.machine) m2 end
      → To same f.hash facts.lawful f.setting f.chart f.blocks facts.lists false i f.began facts.stood w f.machine facts.past f.back facts.facts f.machine.stands m2 end
  falls m2 end s = falls_at same f.hash facts.lawful f.setting f.chart f.blocks facts.lists false i f.began facts.stood w f.machine facts.past f.back facts.facts f.machine.stands
      facts.facts.root facts.facts.point m2 end s

  -- one more was reclaimed
  one_less : (b : ℕ) → length f.back < length (back_of f.setting f.chart f.blocks facts.lists false) → blocks_ahead f (f.back ++ b ∷ []) < blocks_ahead f f.back
  one_less b some = let long = length-append f.back (b ∷ []) in let same_all = ap length all_is in omega (arith, some, long, same_all)

  pub its_fall : {Q : Type 0} (asks : Q → K → Bool) (roots : ℕ) (slot : ℕ → ℕ) (m2 : Mem (Node K V)) (end : EndMap × Settled (Node K V)) → Steps Took value_at w.memory (end_map_plan f.machine) m2 end
      → Lowers V same asks batch_size roots slot f w.memory m2 end
  its_fall asks roots slot m2 (e, settled.Goes) s = inr (refl, falls m2 (e, settled.Goes) s)
  its_fall asks roots slot m2 (e, settled.Gave value) s = λ b. inl (one_less b (falls m2 (e, settled.Gave value) s))
  its_fall asks roots slot m2 (e, settled.Waits) s = tt
  its_fall asks roots slot m2 (e, settled.Done) s = tt

-- the same end in two worlds: the list that waits is the same one
module _ {K V : Type 0} (same : K → K → Bool) (batch_size : ℕ) (w w2 : World (Node K V)) (i : ℕ) (f : Finishing K V)
    (facts : FinishingFacts same batch_size w i f) (facts2 : FinishingFacts same batch_size w2 i f) where
  abbrev JoinsIn : (v : World (Node K V)) → (ℕ → List ℕ) → ℕ → ℕ → Type 0
  JoinsIn v lists t pair = Joins f.setting f.chart f.blocks lists false v.memory f.machine t f.back pair

  joined : (t t2 pair : ℕ) (j : JoinsIn w facts.lists t pair) (j2 : JoinsIn w2 facts2.lists t2 pair) → facts.past ≡ suc t → facts2.past ≡ suc t2
      → list_len w2.memory pair (most_blocks w2.memory) ≡ list_len w.memory pair (most_blocks w.memory)
  joined t t2 pair j j2 is_past is_past2 = sym long2 ∙ sym (ap (λ (l : List ℕ). suc (length l)) rests) ∙ long
    where
      here_is : j.here ≡ j2.here
      here_is = let a = j.pair_is in let b = j2.pair_is in omega (arith, a, b)

      once : (x : ℕ) → times x (j.before ++ j.here ∷ j.rest) ≤ 1
      once = joined_once same f.hash facts.lawful f.setting f.chart f.blocks facts.lists false i f.began facts.stood w f.machine facts.past f.back facts.facts t pair j is_past

      once2 : (x : ℕ) → times x (j2.before ++ j2.here ∷ j2.rest) ≤ 1
      once2 = joined_once same f.hash facts2.lawful f.setting f.chart f.blocks facts2.lists false i f.began facts2.stood w2 f.machine facts2.past f.back facts2.facts t2 pair j2 is_past2

      waits : j.before ++ j.here ∷ j.rest ≡ j2.before ++ j2.here ∷ j2.rest
      waits =
          sym (ap (wait_before f.setting f.chart f.blocks facts.lists false) is_past ∙ j.waiting) ∙ sym facts.waits_are
          ∙ facts2.waits_are ∙ ap (wait_before f.setting f.chart f.blocks facts2.lists false) is_past2 ∙ j2.waiting

      rests : j.rest ≡ j2.rest
      rests = rest_is j.here j.before j2.before j.rest j2.rest (subst (λ (x : ℕ). j.before ++ j.here ∷ j.rest ≡ j2.before ++ x ∷ j2.rest) (sym here_is) waits) once
          (subst (λ (x : ℕ). (y : ℕ) → times y (j2.before ++ x ∷ j2.rest) ≤ 1) (sym here_is) once2)

      long : suc (length j.rest) ≡ list_len w.memory pair (most_blocks w.memory)
      long = sym (ap (λ (x : ℕ). list_len w.memory x (most_blocks w.memory)) j.pair_is ∙ length_read w.memory f.machine.first j.here j.before j.rest once j.there)

      long2 : suc (length j2.rest) ≡ list_len w2.memory pair (most_blocks w2.memory)
      long2 = sym (ap (λ (x : ℕ). list_len w2.memory x (most_blocks w2.memory)) j2.pair_is ∙ length_read w2.memory f.machine.first j2.here j2.before j2.rest once2 j2.there)

  abbrev Facts : (v : World (Node K V)) → (ℕ → List ℕ) → ℕ → Ending → Type 0
  Facts v lists past spot = EndingFacts f.setting f.chart f.blocks lists false i f.hash v f.machine past f.back spot

  steps_same : (spot : Ending) → Facts w facts.lists facts.past spot → Facts w2 facts2.lists facts2.past spot → steps_left w2.memory f.machine spot ≡ steps_left w.memory f.machine spot
  steps_same (at.Follows pair) (t, here, is_past, inl (q, rest, link, g)) point2 = absurd (let own = g.owned in cc own)
  steps_same (at.Follows pair) point (t, here, is_past, inl (q, rest, link, g)) = absurd (let own = g.owned in cc own)
  steps_same (at.Follows pair) (t, here, is_past, inr j) (t2, here2, is_past2, inr j2) = joined t t2 pair j j2 is_past is_past2
  steps_same at.Reads point point2 = refl
  steps_same at.Words point point2 = refl
  steps_same (at.Takes pair) point point2 = refl
  steps_same at.Nexts point point2 = refl
  steps_same at.Carries point point2 = refl
  steps_same (at.Joins pair) point point2 = refl
  steps_same (at.Gives pair next) point point2 = refl
  steps_same at.Afters point point2 = refl
  steps_same (at.Drops next) point point2 = refl
  steps_same at.Shards point point2 = refl
  steps_same at.Sets point point2 = refl
  steps_same at.Frees point point2 = refl
  steps_same at.Over point point2 = refl

  pub others_leave : number_of_ending f w2.memory ≡ number_of_ending f w.memory
  others_leave = ap (λ (x : ℕ). blocks_ahead f f.back ∷ stage f.machine.stands ∷ tables_ahead f.chart.past f.machine f.machine.stands ∷ x ∷ [])
      (steps_same f.machine.stands facts.facts.point facts2.facts.point)

module _ {K Q : Type 0} (V : Type 0) (same : K → K → Bool) (asks : Q → K → Bool) (batch_size roots : ℕ) (slot : ℕ → ℕ) where
  pub endings_fall : EndingsFall V same asks batch_size roots slot
  endings_fall w maps calls makers enders all i f ends m2 end s = its_fall same batch_size w i f (all.facts i f ends) asks roots slot m2 end s

  pub others_leave_endings : OthersLeaveEndings V same asks batch_size roots slot
  others_leave_endings w w2 maps maps2 calls calls2 makers makers2 enders enders2 all all2 i f ends ends2 = others_leave same batch_size w w2 i f (all.facts i f ends) (all2.facts i f ends2)

-- So each comes to its end.
pub countings_end : (K V : Type 0) → CountingsEnd K V
countings_end K V = lowered_ends Sum (CountingGoes K V) number_of_sum (λ c c2 s. (refl, countings_fall K V c c2 s.0 s.1 s.2))

module _ {K Q : Type 0} (V : Type 0) (same : K → K → Bool) (asks : Q → K → Bool) (batch_size roots : ℕ) (slot : ℕ → ℕ) (i : ℕ) where
  abbrev Has : Type 0
  Has = HasEnd V same asks batch_size roots slot i

  abbrev number : Has → List ℕ
  number x = number_of_ending x.f x.w.memory

  lowers : (x y : Has) → EndGoes V same asks batch_size roots slot i x y → (length (number y) ≡ length (number x)) × IsBelow (number y) (number x)
  lowers x y (m2, end, s, did, so) = (refl, by end s did (endings_fall V same asks batch_size roots slot x.w x.maps x.calls x.makers x.enders x.all i x.f x.ends m2 end s) did.told so)
    where
      -- in the world that the step has left, the number is that of the end as it stands on
      meanwhile : (end : EndMap × Settled (Node K V)) (did : StepsOfEnding V same asks batch_size roots slot x.w x.maps x.calls x.makers x.enders i x.f m2 end) (g : Finishing K V)
          → EndingsTogether V same asks batch_size roots slot did.w2 x.maps x.calls x.makers (with_at x.enders i (Some g)) → y.f ≡ g
          → IsBelow (number_of_ending g m2) (number x) → IsBelow (number y) (number x)
      meanwhile end did g together is less =
          subst (λ (ns : List ℕ). IsBelow ns (number x))
          (sym (others_leave_endings V same asks batch_size roots slot did.w2 y.w x.maps y.maps x.calls y.calls x.makers y.makers (with_at x.enders i (Some y.f)) y.enders
          (subst (λ (h : Finishing K V). EndingsTogether V same asks batch_size roots slot did.w2 x.maps x.calls x.makers (with_at x.enders i (Some h))) (sym is) together) y.all i y.f
          (at_same x.enders i (Some y.f) i refl) y.ends))
          (subst (λ (h : Finishing K V). IsBelow (number_of_ending h did.w2.memory) (number x)) (sym is)
          (subst (λ (m : Mem (Node K V)). IsBelow (number_of_ending g m) (number x)) (sym did.memory) less))

      by : (end : EndMap × Settled (Node K V)) → Steps Took value_at x.w.memory (end_map_plan x.f.machine) m2 end
          → (did : StepsOfEnding V same asks batch_size roots slot x.w x.maps x.calls x.makers x.enders i x.f m2 end)
          → Lowers V same asks batch_size roots slot x.f x.w.memory m2 end → FinishingOutcome V same asks batch_size roots slot x.w x.maps x.calls x.makers x.enders i x.f did.w2 did.deed end
          → continues_as x.f did.deed end y.f → IsBelow (number y) (number x)
      by (e, settled.Goes) s did less told so = meanwhile (e, settled.Goes) did (record x.f { machine = e; waits = x.f.waits ++ waiting_by did.deed }) told.1 so less
      by (e, settled.Waits) s did less told so = absurd so
      by (e, settled.Gave value) s did less told so =
          let same_block : so.0 ≡ told.0 = one_block so.0 told.0 (sym so.1 ∙ told.2) in
          meanwhile (e, settled.Gave value) did (record x.f { machine = e; back = x.f.back ++ told.0 ∷ []; waits = x.f.waits ++ waiting_by did.deed }) told.3
          (so.2 ∙ ap (λ (b : ℕ). record x.f { machine = e; back = x.f.back ++ b ∷ []; waits = x.f.waits ++ waiting_by did.deed }) same_block) (less told.0)
        where
          one_block : (a b : ℕ) → a ∷ [] ≡ b ∷ [] → a ≡ b
          one_block a b e = cc e
      by (e, settled.Done) s did less told so = absurd so

  pub endings_end : EndingsEnd V same asks batch_size roots slot i
  endings_end = lowered_ends Has (EndGoes V same asks batch_size roots slot i) number lowers

pub as_many : (K V : Type 0) → EndingNumbersAreAsMany K V
as_many K V f m = refl
