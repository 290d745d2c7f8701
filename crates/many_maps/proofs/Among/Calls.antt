-- A step of a call on a map that stands, or a reply to one, spares each end of another one.
use Rattle.std.specs.Prelude.{◌≢◌, Option, Some, None}
use Rattle.std.proofs.Common.{◌≡◌, ℕ, Bool, ap, sym, subst, ◌∙◌}
use Rattle.many_calls.specs.Given.SeizeWordsMem.{Mem}
use Rattle.many_calls.specs.Given.SeizeWorld.{World, IsInside}
use Rattle.many_calls.specs.Given.TablesDeclared.node.Node.{Node}
use Rattle.many_calls.specs.Given.RuleChart.{Chart}
use Rattle.many_calls.specs.Given.RuleInWorld.{StepSpec}
use Rattle.many_calls.specs.Given.RuleWords.{Blocks}
use Rattle.many_maps.specs.Makings.{Beginning, MakingsTogether}
use Rattle.many_maps.specs.Maps.{Standing, with_call}
use Rattle.many_calls.specs.Sights.{seen_by}
use Rattle.many_calls.specs.Together.{OnKey, UnderWay, in_slot}
use Rattle.many_maps.proofs.Beside.Endings.Calls.{call_spares_end}
use Rattle.many_maps.proofs.Beside.Endings.Spares.{SparesEnd}
use Rattle.many_maps.proofs.Beside.Makings.CallSteps.{call_elsewhere, calls_stand_beside, replies_stand_beside, calls_begin_beside, settings}
use Rattle.many_maps.proofs.Beside.Maps.OtherSteps.{known_out, known_owner}
use Rattle.many_maps.proofs.Beside.Maps.Steps.{seen_known}
use Rattle.many_maps.specs.Endings.{Finishing, EndingsTogether, CallsPreserveWithEndings, RepliesPreserveWithEndings, CallsBeginWithEndings}
use Rattle.many_maps.proofs.Among.Beside.{IsSparedEnd, other_owner, endings_same}

module _ {K Q : Type 0} (V : Type 0) (same : K → K → Bool) (asks : Q → K → Bool) (batch_size roots : ℕ) (slot : ℕ → ℕ)
    (w : World (Node K V)) (maps : ℕ → Option (Standing K)) (calls : ℕ → ℕ → Option (UnderWay K V Q)) (makers : ℕ → Option (Beginning K)) (enders : ℕ → Option (Finishing K V))
    (all : EndingsTogether V same asks batch_size roots slot w maps calls makers enders) where
  -- who ends a map is not who has a call
  pub no_ender : (m i : ℕ) (u : UnderWay K V Q) → calls m i ≡ Some u → (j : ℕ) (f : Finishing K V) → enders j ≡ Some f → j ≢ i
  no_ender m i u has j f ends e = let none = subst (λ (x : ℕ). calls m x ≡ None) e ((all.alone j f ends).0 m) in cc (none, has)

  -- and has none after another one's call has begun, gone on or ended
  pub ender_alone : (m i : ℕ) (it : Option (UnderWay K V Q)) → ((j : ℕ) (f : Finishing K V) → enders j ≡ Some f → j ≢ i) → (j : ℕ) (f : Finishing K V) → enders j ≡ Some f → (n : ℕ) → with_call calls m i it n j ≡ None
  ender_alone m i it other j f ends n = call_elsewhere calls m i it j (other j f ends) n (all.alone j f ends).0

  -- Nothing has changed but one call, of a caller that ends no map: where the maps and the makings stand with it, the ends go on.
  pub endings_with_call : (m i : ℕ) (it : Option (UnderWay K V Q)) → ((j : ℕ) (f : Finishing K V) → enders j ≡ Some f → j ≢ i)
      → MakingsTogether V same asks batch_size roots slot w maps (with_call calls m i it) makers → EndingsTogether V same asks batch_size roots slot w maps (with_call calls m i it) makers enders
  endings_with_call m i it other stand = record {
    makings = stand;
    facts = all.facts;
    alone = λ j f ends. (ender_alone m i it other j f ends, (all.alone j f ends).1);
    roots_apart = all.roots_apart;
    counters_apart = all.counters_apart;
    makings_roots = all.makings_roots;
    makings_counters = all.makings_counters;
    their_roots = all.their_roots;
    their_counters = all.their_counters;
  }

  module _ (m : ℕ) (s : Standing K) (here : maps m ≡ Some s) (i : ℕ) (u : UnderWay K V Q) (has : calls m i ≡ Some u) (in_it : IsInside (w.uses (slot i))) (m2 : Mem (Node K V))
      (Told : World (Node K V) → Chart K → Blocks → Type 0)
      (went : StepSpec same s.hash (in_slot s.setting (slot i)) i w s.chart (seen_by s.blocks (s.sights (slot i))) m2 Told) where
    pub call_spares : (j : ℕ) (f : Finishing K V) → enders j ≡ Some f → IsSparedEnd batch_size w went.w2 j f
    call_spares j f ends =
        let stands = all.makings.standing.each m s here in
        let o = other_owner f s.setting.counter (all.counters_apart j m f s ends here) in (
          o.0,
          o.1,
          subst (λ (size : ℕ). SparesEnd w went.w2 size o.0 f.setting.root j) (all.makings.standing.fit m s here).2
              (call_spares_end same s.hash (in_slot s.setting (slot i)) i w s.chart (seen_by s.blocks (s.sights (slot i))) m2 Told went stands.ground.came stands.ground.counter
              (λ b seen. known_out same s.hash asks s.setting slot w s.chart s.blocks s.sights (calls m) stands b (seen_known V same asks batch_size slot w maps calls all.makings.standing m s here i u has in_it b seen))
              (λ b seen. known_owner same s.hash asks s.setting slot w s.chart s.blocks s.sights (calls m) stands b (seen_known V same asks batch_size slot w maps calls all.makings.standing m s here i u has in_it b seen))
              o.0 f.setting.root j o.2 (all.roots_apart j m f s ends here)),
        )

module _ {K Q : Type 0} (V : Type 0) (same : K → K → Bool) (asks : Q → K → Bool) (batch_size roots : ℕ) (slot : ℕ → ℕ) where
  pub calls_stand_among : CallsPreserveWithEndings V same asks batch_size roots slot
  calls_stand_among w maps calls makers enders all m s here i u has none =
      let leads = calls_stand_beside V same asks batch_size roots slot w maps calls makers all.makings m s here i u has none in (
        leads.0,
        λ m2 p2 progress st.
            let to = leads.1 m2 p2 progress st in
            record {
              no_row = none;
              step = to.step;
              together = endings_same V same asks batch_size roots slot w maps calls makers enders all to.step.went.w2
                  (call_spares V same asks batch_size roots slot w maps calls makers enders all m s here i (OnKey u) has ((all.makings.standing.each m s here).inside i (OnKey u) has) m2 _ to.step.went) _ _ to.together
                  (ender_alone V same asks batch_size roots slot w maps calls makers enders all m i _ (no_ender V same asks batch_size roots slot w maps calls makers enders all m i (OnKey u) has))
                  (settings V same asks batch_size roots slot w maps calls makers all.makings m s here i (OnKey u) has to.step.went.c2 to.step.blocks2 to.step.sights2);
            },
      )

  pub replies_stand_among : RepliesPreserveWithEndings V same asks batch_size roots slot
  replies_stand_among w maps calls makers enders all m s here i u has asks_at asks_it =
      let taken = replies_stand_beside V same asks batch_size roots slot w maps calls makers all.makings m s here i u has asks_at asks_it in (
        taken.0,
        taken.1,
        taken.2,
        λ about is reply.
            endings_with_call V same asks batch_size roots slot w maps calls makers enders all m i _ (no_ender V same asks batch_size roots slot w maps calls makers enders all m i (OnKey u) has)
            (taken.3 about is reply),
      )

  pub calls_begin_among : CallsBeginWithEndings V same asks batch_size roots slot
  calls_begin_among w maps calls makers enders all i free unending alone rests inside m s here keys pair call begun few =
      endings_with_call V same asks batch_size roots slot w maps calls makers enders all m i _ (λ j f ends e. (let none = ap enders (sym e) ∙ ends in cc (none, unending)))
      (calls_begin_beside V same asks batch_size roots slot w maps calls makers all.makings i free alone rests inside m s here keys pair call begun few)
