-- A step of a making spares each end of a map, and takes neither its root nor its counter.
use Rattle.std.specs.Prelude.{◌≢◌, Option, Some, None}
use Rattle.std.proofs.Common.{◌≡◌, ℕ, zero, suc, Bool, refl, arith, ap, sym, subst, ◌∙◌, inl, inr}
use Rattle.many_calls.specs.Given.SeizeWordsDeclared.at.At.TheVariants.{Used}
use Rattle.many_calls.specs.Given.SeizeWordsMem.{Mem, value_at, word_at}
use Rattle.many_calls.specs.Given.SeizeWorld.{World, times, with_at}
use Rattle.many_calls.specs.Given.SeizeDeclared.advance.Advance.{Advance}
use Rattle.many_calls.specs.Given.SeizeDeclared.advance.Advance.TheVariants as progress
use Rattle.many_calls.specs.Given.TablesDeclared.node.Node.{Node}
use Rattle.many_calls.specs.Given.TablesDeclared.setting.Setting.{Setting}
use Rattle.many_calls.specs.Given.ResizeDeclared.new_map.NewMap.{NewMap}
use Rattle.many_maps.specs.Makings.{Beginning, HasTaken, HasMade, MakingsTogether, MakingOutcome}
use Rattle.many_maps.specs.Maps.{Standing}
use Rattle.many_calls.specs.Together.{UnderWay}
use Rattle.many_maps.proofs.Beside.Endings.Makings.{making_spares_end}
use Rattle.many_maps.proofs.Beside.Makings.Promised.{makings_went}
use Rattle.many_maps.proofs.Beside.Makings.Steps.{one_made, making_leads}
use Rattle.many_maps.proofs.Beside.Makings.Went.{IsOwnRoot, IsOwnCounter, GoesTo, MakingWent}
use Rattle.many_maps.proofs.Beside.Maps.Comes.{each_at}
use Rattle.many_calls.proofs.Together.At.{at_other}
use Rattle.many_maps.specs.Endings.{Finishing, HasCounter, EndingsTogether, MakingsBeginWithEndings, MakingOutcomeWithEndings, MakingStepsWithEndings, MakingsPreserveWithEndings}
use Rattle.many_maps.proofs.Among.Beside.{IsSparedEnd, endings_on}
use Rattle.many_maps.proofs.Among.LeftAlone.{root_taken}
use Rattle.many_calls.proofs.Given.General.{same_some as one_of}

module _ {K Q : Type 0} (V : Type 0) (same : K → K → Bool) (asks : Q → K → Bool) (batch_size roots : ℕ) (slot : ℕ → ℕ)
    (w : World (Node K V)) (maps : ℕ → Option (Standing K)) (calls : ℕ → ℕ → Option (UnderWay K V Q)) (makers : ℕ → Option (Beginning K)) (enders : ℕ → Option (Finishing K V))
    (all : EndingsTogether V same asks batch_size roots slot w maps calls makers enders) (i : ℕ) where
  -- who ends a map does not make one, before and after
  alone_on : (new : Option (Beginning K)) → ((j : ℕ) (f : Finishing K V) → enders j ≡ Some f → j ≢ i) → (j : ℕ) (f : Finishing K V) → enders j ≡ Some f
      → ((m : ℕ) → calls m j ≡ None) × (with_at makers i new j ≡ None)
  alone_on new other j f ends = ((all.alone j f ends).0, at_other makers i new j (other j f ends) ∙ (all.alone j f ends).1)

  module _ (b : Beginning K) (makes : makers i ≡ Some b) where
    no_ender : (j : ℕ) (f : Finishing K V) → enders j ≡ Some f → j ≢ i
    no_ender j f ends e = let none = subst (λ (x : ℕ). makers x ≡ None) e (all.alone j f ends).1 in cc (none, makes)

    -- the root of an end is taken, and its counter is there
    not_its_root : (j : ℕ) (f : Finishing K V) → enders j ≡ Some f → (r : ℕ) → IsOwnRoot V same asks batch_size roots slot w i b r → f.setting.root ≢ r
    not_its_root j f ends r (inl (taken, is)) e = all.makings_roots j i f b ends makes taken (e ∙ is)
    not_its_root j f ends r (inr free) e = (let one = root_taken same batch_size w j f (all.facts j f ends) in let none = subst (λ (x : ℕ). word_at w.memory (Used x) ≡ Some 0) (sym e) free in cc (one, none))

    not_its_counter : (j : ℕ) (f : Finishing K V) → enders j ≡ Some f → HasCounter f → (x : ℕ) → IsOwnCounter V same asks batch_size roots slot w i b x → f.setting.counter ≢ x
    not_its_counter j f ends has x (inl (made, is)) e = all.makings_counters j i f b ends makes made has (e ∙ is)
    not_its_counter j f ends has x (inr none) e =
        (let there = ((all.facts j f ends).facts.since.counter has).0 in let gone = subst (λ (y : ℕ). value_at w.memory y ≡ None) (sym e) none in cc (there, gone))

    module _ (m2 : Mem (Node K V)) (end : NewMap × Advance Setting) (went : MakingWent V same asks batch_size roots slot w i b m2 end) where
      spared : (j : ℕ) (f : Finishing K V) → enders j ≡ Some f → IsSparedEnd batch_size w went.w2 j f
      spared j f ends =
          let o = other_counter (times f.setting.counter f.back) refl in (
            o.0,
            o.1,
            making_spares_end batch_size roots i b.machine w went.w2 all.makings.standing.came went.left o.0 f.setting.root j o.2 (λ its. all.makings_roots j i f b ends makes its.0 its.1),
          )
        where
          other_counter : (k : ℕ) → times f.setting.counter f.back ≡ k → (o : ℕ) × (HasCounter f → o ≡ f.setting.counter) × (HasMade b.machine.stands → o ≢ b.machine.setting.counter)
          other_counter zero e = (f.setting.counter, λ has. refl, λ made. all.makings_counters j i f b ends makes made e)
          other_counter (suc k) e = (suc b.machine.setting.counter, λ has. absurd (omega (arith, has, e)), λ made same. omega (arith, same))

      -- the maps that stand, and the makings, with one that went on or is over
      module _ (new : Option (Beginning K)) (roots2 : (j : ℕ) (f : Finishing K V) → enders j ≡ Some f → (d : Beginning K) → new ≡ Some d
          → (HasTaken d.machine.stands → f.setting.root ≢ d.machine.setting.root) × (HasMade d.machine.stands → HasCounter f → f.setting.counter ≢ d.machine.setting.counter)) where
        makings_apart : (j l : ℕ) (f : Finishing K V) (d : Beginning K) → enders j ≡ Some f → with_at makers i new l ≡ Some d
            → (HasTaken d.machine.stands → f.setting.root ≢ d.machine.setting.root) × (HasMade d.machine.stands → HasCounter f → f.setting.counter ≢ d.machine.setting.counter)
        makings_apart j l f d ends is =
            one_made makers i new (λ l d. (HasTaken d.machine.stands → f.setting.root ≢ d.machine.setting.root) × (HasMade d.machine.stands → HasCounter f → f.setting.counter ≢ d.machine.setting.counter))
            (λ d e. roots2 j f ends d e) (λ l d other has. (all.makings_roots j l f d ends has, all.makings_counters j l f d ends has)) l d is

        goes_on : MakingsTogether V same asks batch_size roots slot went.w2 maps calls (with_at makers i new) → EndingsTogether V same asks batch_size roots slot went.w2 maps calls (with_at makers i new) enders
        goes_on makings2 =
            endings_on V same asks batch_size roots slot w maps calls makers enders all went.w2 spared maps calls (with_at makers i new) makings2 (alone_on new no_ender)
            (λ j m f s ends here. (all.roots_apart j m f s ends here, all.counters_apart j m f s ends here)) makings_apart

      over : (new : Option (Beginning K)) → new ≡ None → MakingsTogether V same asks batch_size roots slot went.w2 maps calls (with_at makers i new)
          → EndingsTogether V same asks batch_size roots slot went.w2 maps calls (with_at makers i new) enders
      over new none makings2 = goes_on new (λ j f ends d is. absurd (cc (none, is))) makings2

      -- its map stands
      stands : (s : Standing K) → IsOwnRoot V same asks batch_size roots slot w i b s.setting.root → IsOwnCounter V same asks batch_size roots slot w i b s.setting.counter
          → MakingsTogether V same asks batch_size roots slot went.w2 (with_at maps b.map (Some s)) calls (with_at makers i None)
          → EndingsTogether V same asks batch_size roots slot went.w2 (with_at maps b.map (Some s)) calls (with_at makers i None) enders
      stands s root counter makings2 =
          endings_on V same asks batch_size roots slot w maps calls makers enders all went.w2 spared (with_at maps b.map (Some s)) calls (with_at makers i None) makings2 (alone_on None no_ender)
          (λ j m f s2 ends here. each_at V same asks batch_size slot maps b.map s (λ m r. (f.setting.root ≢ r.setting.root) × (HasCounter f → f.setting.counter ≢ r.setting.counter))
          (not_its_root j f ends s.setting.root root, λ has. not_its_counter j f ends has s.setting.counter counter)
          (λ m r ne is. (all.roots_apart j m f r ends is, all.counters_apart j m f r ends is)) m s2 here)
          (makings_apart None (λ j f ends d is. absurd (cc is)))

      told : (end : NewMap × Advance Setting) → GoesTo V same asks batch_size roots slot w i b went.w2 end → MakingOutcome V same asks batch_size roots slot w maps calls makers i b went.w2 end
          → MakingOutcomeWithEndings V same asks batch_size roots slot w maps calls makers enders i b went.w2 end
      told (n, progress.Goes) goes makings2 =
          goes_on (Some (record b { machine = n }))
          (λ j f ends d is. subst (λ (x : Beginning K). (HasTaken x.machine.stands → f.setting.root ≢ x.machine.setting.root) × (HasMade x.machine.stands → HasCounter f → f.setting.counter ≢ x.machine.setting.counter))
          (one_of (record b { machine = n }) d is)
          (λ taken. not_its_root j f ends n.setting.root (goes.1 taken), λ made has. not_its_counter j f ends has n.setting.counter (goes.2 made))) makings2
      told (n, progress.Waits) goes makings2 = absurd goes
      told (n, progress.Done answer) goes (s, made, makings2) =
          let is : goes.s.setting ≡ s.setting = goes.made.setting_is ∙ sym made.setting_is in (
            s,
            made,
            stands s (subst (λ (x : Setting). IsOwnRoot V same asks batch_size roots slot w i b x.root) is goes.root)
                (subst (λ (x : Setting). IsOwnCounter V same asks batch_size roots slot w i b x.counter) is goes.counter) makings2,
          )
      told (n, progress.Refused fault) goes makings2 = over None refl makings2

      leads : MakingStepsWithEndings V same asks batch_size roots slot w maps calls makers enders i b m2 end
      leads =
          let step = making_leads V same asks batch_size roots slot w maps calls makers all.makings i b makes m2 end went in
          record { step = step; told = told end went.told step.told }

module _ {K Q : Type 0} (V : Type 0) (same : K → K → Bool) (asks : Q → K → Bool) (batch_size roots : ℕ) (slot : ℕ → ℕ) where
  pub makings_stand_among : MakingsPreserveWithEndings V same asks batch_size roots slot
  makings_stand_among w maps calls makers enders all i b makes =
      let m = makings_went V same asks batch_size roots slot w maps calls makers all.makings i b makes in
      (m.0, λ m2 end s. leads V same asks batch_size roots slot w maps calls makers enders all i b makes m2 end (m.1 m2 end s))

  -- it has neither a root nor a counter yet
  pub makings_begin_among : MakingsBeginWithEndings V same asks batch_size roots slot
  makings_begin_among w maps calls makers enders all i unending b makings2 begins = record {
    makings = makings2;
    facts = all.facts;
    alone = alone_on V same asks batch_size roots slot w maps calls makers enders all i (Some b) (λ j f ends e. (let none = ap enders (sym e) ∙ ends in cc (none, unending)));
    roots_apart = all.roots_apart;
    counters_apart = all.counters_apart;
    makings_roots = λ j l f d ends is. one_made makers i (Some b) (λ l d. HasTaken d.machine.stands → f.setting.root ≢ d.machine.setting.root)
        (λ d e taken. absurd (not_taken d e taken)) (λ l d other has. all.makings_roots j l f d ends has) l d is;
    makings_counters = λ j l f d ends is. one_made makers i (Some b) (λ l d. HasMade d.machine.stands → HasCounter f → f.setting.counter ≢ d.machine.setting.counter)
        (λ d e made. absurd (not_made d e made)) (λ l d other has. all.makings_counters j l f d ends has) l d is;
    their_roots = all.their_roots;
    their_counters = all.their_counters;
  }
    where
      not_taken : (d : Beginning K) → ◌≡◌ {A = Option (Beginning K)} (Some b) (Some d) → HasTaken d.machine.stands → ⊥
      not_taken d is taken = subst (λ (n : NewMap). HasTaken n.stands) (ap (λ (x : Beginning K). x.machine) (sym (one_of b d is)) ∙ begins) taken

      not_made : (d : Beginning K) → ◌≡◌ {A = Option (Beginning K)} (Some b) (Some d) → HasMade d.machine.stands → ⊥
      not_made d is made = subst (λ (n : NewMap). HasMade n.stands) (ap (λ (x : Beginning K). x.machine) (sym (one_of b d is)) ∙ begins) made
