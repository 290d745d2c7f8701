-- The end of a map that owns its collector: it begins while nothing else is under way, and each of its steps may be taken.
use Rattle.std.specs.Prelude.{Option, Some, None}
use Rattle.std.proofs.Common.{◌≡◌, ℕ, ◌≤◌, Bool, true, List, [], ◌∷◌, ◌++◌, inl, inr, refl, arith, sym, subst, ◌∙◌}
use Rattle.std.proofs.lemmas.Bool.{cases_eq}
use Rattle.many_calls.specs.Given.SeizeWordsMem.{Mem}
use Rattle.many_calls.specs.Given.SeizeDeclared.rows.settle.Settled.{Settled}
use Rattle.many_calls.specs.Given.SeizeDeclared.rows.settle.Settled.TheVariants as settled
use Rattle.many_calls.specs.Given.SeizeWorld.{World, Runs, times, with_at}
use Rattle.many_calls.proofs.Given.SeizeAloneHistories.Uses.{none_held}
use Rattle.many_calls.specs.Given.TablesNodes.{deferred_word}
use Rattle.many_calls.specs.Given.TablesDeclared.node.Node.{Node}
use Rattle.many_calls.specs.Given.RawDeclared.machines.end_map.EndMap.{EndMap}
use Rattle.many_calls.specs.Given.RawDeclared.machines.end_map.Ending.{Ending}
use Rattle.many_calls.specs.Together.{UnderWay, CameAbout, Together}
use Rattle.many_calls.proofs.Together.At.{at_other, at_same}
use Rattle.many_calls.proofs.Together.Came.{came_on, came_reached}
use Rattle.many_maps.specs.Endings.{Finishing, EndingsTogether}
use Rattle.many_maps.specs.FactsEnds.{events_of, RootIs, MayEnd, EndingFacts, EndFacts, HasEnded, EndOutcome, EndStepSpec}
use Rattle.many_maps.specs.Makings.{Beginning, HasRoots}
use Rattle.many_maps.specs.Maps.{Standing}
use Rattle.many_maps.specs.Owners.{owning_end_of, OwnEndFacts, OwnEnding, OwnEndingsBegin, OwnEndingOutcome, OwnEndingsStand}
use Rattle.many_maps.proofs.Among.Begins.{lists_then, may_end_now, each_pair}
use Rattle.many_maps.proofs.Among.LeftAlone.{used_until_over}
use Rattle.many_maps.proofs.Among.Own.Makings.{IsRoot}
use Rattle.many_maps.proofs.Among.Own.Steps.{root_of_waits}
use Rattle.many_maps.proofs.Beside.Endings.Begins.{makings_stand_without}
use Rattle.many_maps.proofs.Ends.Known.{back_once}
use Rattle.many_maps.proofs.Ends.OrdersOn.{before_owned}
use Rattle.many_maps.proofs.Ends.Points.{began_in, end_begins, end_steps}

module _ {K Q : Type 0} (V : Type 0) (same : K → K → Bool) (asks : Q → K → Bool) (batch_size roots : ℕ) (slot : ℕ → ℕ)
    (maps : ℕ → Option (Standing K)) (calls : ℕ → ℕ → Option (UnderWay K V Q)) (makers : ℕ → Option (Beginning K)) (enders : ℕ → Option (Finishing K V)) (w : World (Node K V)) (i : ℕ) where
  -- it begins
  pub own_endings_begin : OwnEndingsBegin V same asks batch_size roots slot maps calls makers enders w i
  own_endings_begin all no_calls no_makers no_enders outside m s here only w2 h = (
    record {
      together = record {
        makings = makings_stand_without V same asks batch_size slot w maps calls m i s.setting.counter w2 h roots makers all.makings (no_calls m);
        facts = λ j f ends. no_ender j f ends;
        alone = all.alone;
        roots_apart = λ j n f r ends. no_ender j f ends;
        counters_apart = λ j n f r ends. no_ender j f ends;
        makings_roots = all.makings_roots;
        makings_counters = all.makings_counters;
        their_roots = all.their_roots;
        their_counters = all.their_counters;
      };
      no_maps = λ n. (elim (cases_eq n m) as (λ _. with_at maps m None n ≡ None) [
        | inl e ↦ at_same maps m None n e
        | inr ne ↦ at_other maps m None n ne ∙ only n ne
      ]);
      no_makers = no_makers;
      no_enders = no_enders;
      facts = subst (λ (v : World (Node K V)). OwnEndFacts same batch_size v i (owning_end_of s w)) (sym h) (record {
        lawful = (all.makings.standing.fit m s here).0;
        batches = (all.makings.standing.fit m s here).2;
        lists = lists_now;
        past = s.chart.first;
        stood = began_in same s.hash s.setting s.chart s.blocks lists_now true i w may;
        facts = end_begins same s.hash s.setting s.chart s.blocks lists_now true i w may;
      });
    },
    each_pair same asks slot w s (calls m) stands (no_calls m) (all.makings.standing.fit m s here).0,
  )
    where
      no_ender : {X : Type 0} (j : ℕ) (f : Finishing K V) → enders j ≡ Some f → X
      no_ender j f ends = absurd (let none = no_enders j in cc (none, ends))

      stands : Together V same s.hash asks s.setting slot w s.chart s.blocks s.sights (calls m)
      stands = all.makings.standing.each m s here

      lists_now : ℕ → List ℕ
      lists_now = lists_then same asks slot w s (calls m) stands (no_calls m)

      may : MayEnd s.setting s.chart s.blocks lists_now true same s.hash w
      may =
          let k = may_end_now same asks slot w s (calls m) stands (no_calls m) (all.makings.used m s here) in
          record {
            map = k.map;
            counter = k.counter;
            used = k.used;
            tables = k.tables;
            pairs = k.pairs;
            carries = k.carries;
            free = λ owned t x. none_held deferred_word batch_size w (came_reached batch_size w all.makings.standing.came) outside x t;
          }

  -- it takes a step
  module _ (f : Finishing K V) (own : OwnEnding V same asks batch_size roots slot maps calls makers enders w i f) (m2 : Mem (Node K V)) (end : EndMap × Settled (Node K V))
      (went : EndStepSpec f.setting f.chart f.blocks own.facts.lists true i f.hash f.began w own.facts.past f.back m2 end) where
    abbrev facts : OwnEndFacts same batch_size w i f
    facts = own.facts

    runs : Runs deferred_word batch_size (events_of i went.deed) w went.w2
    runs = subst (λ (n : ℕ). Runs deferred_word n (events_of i went.deed) w went.w2) facts.batches went.runs

    came2 : CameAbout batch_size went.w2
    came2 = came_on batch_size w went.w2 (events_of i went.deed) own.together.makings.standing.came runs

    no_map : {X : Type 0} (m : ℕ) (s : Standing K) → maps m ≡ Some s → X
    no_map m s here = absurd (let none = own.no_maps m in cc (none, here))

    no_maker : {X : Type 0} (j : ℕ) (b : Beginning K) → makers j ≡ Some b → X
    no_maker j b makes = absurd (let none = own.no_makers j in cc (none, makes))

    no_ender : {X : Type 0} (j : ℕ) (g : Finishing K V) → enders j ≡ Some g → X
    no_ender j g ends = absurd (let none = own.no_enders j in cc (none, ends))

    -- nothing else stands, so all does
    together2 : IsRoot went.w2 f.setting.root → EndingsTogether V same asks batch_size roots slot went.w2 maps calls makers enders
    together2 root = record {
      makings = record {
        standing = record {
          came = came2;
          each = λ m s here. no_map m s here;
          fit = λ m s here. no_map m s here;
          roots = λ m n s r ne here. no_map m s here;
          counters = λ m n s r ne here. no_map m s here;
          only = own.together.makings.standing.only;
          once = own.together.makings.standing.once;
        };
        free = free2;
        used = λ m s here. no_map m s here;
        facts = λ j b makes. no_maker j b makes;
        alone = own.together.makings.alone;
        coming = own.together.makings.coming;
        numbers = own.together.makings.numbers;
        their_roots = own.together.makings.their_roots;
        roots_apart = own.together.makings.roots_apart;
        counters_apart = own.together.makings.counters_apart;
      };
      facts = λ j g ends. no_ender j g ends;
      alone = own.together.alone;
      roots_apart = own.together.roots_apart;
      counters_apart = own.together.counters_apart;
      makings_roots = own.together.makings_roots;
      makings_counters = own.together.makings_counters;
      their_roots = own.together.their_roots;
      their_counters = own.together.their_counters;
    }
      where
        free2 : HasRoots went.w2 roots
        free2 r below = elim (cases_eq r f.setting.root) as (λ _. IsRoot went.w2 r) [
          | inl e ↦ subst (IsRoot went.w2) (sym e) root
          | inr ne ↦ (let h = own.together.makings.free r below in let k = went.spares.roots r ne in (h.0, k.1 ∙ h.1, λ none. k.0 ∙ h.2 none))
        ]

    abbrev Facts : EndMap → List ℕ → Type 0
    Facts e back = EndFacts f.setting f.chart f.blocks facts.lists true i f.hash f.began went.w2 e went.past2 back

    -- until it is over its root is taken
    root_taken : (e : EndMap) (back : List ℕ) → Facts e back → IsRoot went.w2 f.setting.root
    root_taken e back h = (
      1,
      used_until_over f.hash f.setting f.chart f.blocks went.w2.memory e.stands
          (λ over. subst (λ (stage : Ending). EndingFacts f.setting f.chart f.blocks facts.lists true i f.hash went.w2 e went.past2 back stage) over h.point) h.root,
      λ none. absurd (omega (arith, none)),
    )

    goes_on : (e : EndMap) (back : List ℕ) → Facts e back → OwnEnding V same asks batch_size roots slot maps calls makers enders went.w2 i (record f { machine = e; back = back })
    goes_on e back h = record {
      together = together2 (root_taken e back h);
      no_maps = own.no_maps;
      no_makers = own.no_makers;
      no_enders = own.no_enders;
      facts = record { lawful = facts.lawful; batches = facts.batches; lists = facts.lists; past = went.past2; stood = facts.stood; facts = h };
    }

    -- nothing waits behind its root
    root_free : HasEnded f.setting f.chart f.blocks facts.lists true i f.hash f.began went.w2 went.past2 f.back → RootIs f.setting went.w2.memory []
    root_free h = subst (λ (l : List ℕ). RootIs f.setting went.w2.memory l) (before_owned f.setting f.chart f.blocks facts.lists true went.past2 refl) h.root

    told_at : (end : EndMap × Settled (Node K V)) → EndOutcome f.setting f.chart f.blocks facts.lists true i f.hash f.began w went.w2 went.deed went.past2 f.back end
        → OwnEndingOutcome V same asks batch_size roots slot maps calls makers enders w i f went.w2 went.deed end
    told_at (e, settled.Goes) (none, h) = (none, goes_on e f.back h)
    told_at (e, settled.Waits) h = h
    told_at (e, settled.Gave value) (b, taken, there, h) = (b, there, taken, goes_on e (f.back ++ b ∷ []) h)
    told_at (e, settled.Done) (none, h) = (
      none,
      record {
        lists = facts.lists;
        carried = facts.stood.owned refl;
        back_is = sym h.back_is;
        once = λ x. subst (λ (l : List ℕ). times x l ≤ 1) h.back_is (back_once same f.hash facts.lawful f.setting f.chart f.blocks facts.lists true i f.began facts.stood x);
        free = (let r = root_free h in (r.1, r.0));
      },
      together2 (root_of_waits went.w2 f [] (root_free h)),
    )

  pub own_endings_stand : OwnEndingsStand V same asks batch_size roots slot maps calls makers enders w i
  own_endings_stand f own =
      let facts = own.facts in
      let steps = end_steps same f.hash facts.lawful f.setting f.chart f.blocks facts.lists true i f.began facts.stood w f.machine facts.past f.back facts.facts in (
        steps.0,
        λ m2 end s.
            let went = steps.1 m2 end s in
            record {
              w2 = went.w2;
              deed = went.deed;
              runs = runs f own m2 end went;
              memory = went.memory;
              told = told_at f own m2 end went end went.told;
            },
      )
