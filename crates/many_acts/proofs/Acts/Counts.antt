-- A counting that is under way has come to the sum of what it has read, and answers it.
use Rattle.std.specs.Prelude.{◌≡◌, ◌≢◌, ◌⊎◌, ℕ, suc, ◌%◌, ◌^◌, ◌≤◌, ◌==◌, Bool, true, false, List, [], ◌∷◌, ◌++◌, length, Option, Some, if◌then◌else◌}
use Rattle.std.specs.List.{sum}
use Rattle.std.proofs.Common.{inl, inr, refl, sym, ap, subst, ◌∙◌, arith}
use Rattle.std.proofs.lemmas.Bool.{cases_eq}
use Rattle.run_shows.specs.Given.SeizeWordsMem.{Took, value_at}
use Rattle.run_shows.specs.Given.SeizeWordsPlan.{Steps}
use Rattle.run_shows.specs.Given.SeizeWorld.{with_at}
use Rattle.run_shows.specs.Given.SeizeDeclared.advance.Advance.{Advance as Counted}
use Rattle.run_shows.specs.Given.SeizeDeclared.advance.Advance.TheVariants as counted_as
use Rattle.run_shows.specs.Given.SeizeDeclared.rows.settle.Settled.{Settled}
use Rattle.run_shows.specs.Given.SeizeDeclared.rows.settle.Settled.TheVariants as settled
use Rattle.seize_acts.proofs.Acts.Answers.{was_stepped}
use Rattle.seize_acts.proofs.Given.SeizeRuleRows.Leaving.{steps_back}
use Rattle.run_shows.specs.Given.TablesCounts.{count_in}
use Rattle.run_shows.specs.Given.TablesDeclared.node.Node.{Node}
use Rattle.run_shows.specs.Given.TablesDeclared.setting.Setting.{Setting}
use Rattle.run_shows.specs.Given.ResizeSum.{summing, sum_plan}
use Rattle.run_shows.specs.Given.ResizeDeclared.sum.Sum.{Sum}
use Rattle.run_shows.specs.Given.ResizeDeclared.sum.Summing.{Summing}
use Rattle.run_shows.specs.Given.ReservesReserve.{reserve_plan}
use Rattle.run_shows.specs.Given.SweepsSweep.{sweep_plan}
use Rattle.run_shows.specs.Given.RawCall.{call_plan}
use Rattle.run_shows.specs.Given.RawMachine.{machine_plan, machine_replied, machine_asked, called, reserved, swept, counted}
use Rattle.run_shows.specs.Given.RawProgress.{of_counting}
use Rattle.run_shows.specs.Given.RawDeclared.machines.asking.MachineReply.{MachineReply}
use Rattle.run_shows.specs.Given.RawDeclared.machines.machine.Machine.{Machine}
use Rattle.run_shows.specs.Given.RawDeclared.machines.machine.Machine.TheVariants as kinds
use Rattle.run_shows.specs.Given.RawDeclared.machines.progress.Answer.TheVariants as answers
use Rattle.run_shows.specs.Given.RawDeclared.machines.progress.Progress.{Progress}
use Rattle.run_shows.specs.Given.RawDeclared.machines.progress.Progress.TheVariants as progress
use Rattle.owner_facts.specs.Given.PointsFactsTables.{CountsShards, SumFacts}
use Rattle.owner_facts.specs.Given.CallersTogether.{UnderWay, OnKey, ForRoom, Counting, OverAll, in_slot}
use Rattle.owner_facts.proofs.Given.CallersTogether.At.{at_same, at_other}
use Rattle.owner_facts.specs.Given.FinishesEndings.{StepsOfEnding, MakingStepsWithEndings}
use Rattle.owner_facts.specs.Given.FinishesMachines.{machine_of, ContinuesAs}
use Rattle.owner_facts.specs.Given.FinishesMaps.{Standing, with_call}
use Rattle.many_acts.specs.Acts.Acts.{Act, Answer, OfCall, Wanted, Count, its, begun, BeginsCall, StepsCall, TellsCall, AsksCall, StopsCall, BeginsMaking, StepsMaking, BeginsEnding, StepsEnding, BeginsRow, StepsRow}
use Rattle.many_acts.specs.Acts.Counts.{HasRead, is_its, next_shard, read_on, shard_of_call, read_by, words_on, words_read, CountingsAddUp, CountingsAnswerTheSum}
use Rattle.many_acts.specs.Acts.Doings.{Doing, Does, BeginsReclaiming, BeginsClearing, StepsReclaiming, Chooses, Stage, MayDo, HasDone}
use Rattle.many_acts.specs.Acts.Leads.{Led, CallCame, MakingCame, EndingCame, asked_on}
use Rattle.many_acts.proofs.Acts.Calls.{asked_machine}
use Rattle.many_acts.specs.Acts.Lists.{Course, Reached, LedOn, LedTo, nothing_done, on_by}
use Rattle.many_acts.proofs.Acts.Sums.{Added, adds_on}
use Rattle.run_shows.specs.Scenes.Replying.{unless_stopped}
use Rattle.run_shows.specs.Scenes.Scene.{Scene}
use Rattle.run_shows.proofs.Given.General.{both_true as and_both}

module _ {X : Type 0} (calls : ℕ → ℕ → Option X) (i m j n : ℕ) (it : Option X) where
  -- the call of this caller on this map, where one of some caller on some map is another one
  pub its_call : j ≡ i → n ≡ m → with_call calls n j it m i ≡ it
  its_call e k = ap (λ (f : ℕ → Option X). f i) (at_same calls n (with_at (calls n) j it) m (sym k)) ∙ at_same (calls n) j it i (sym e)

  pub other_call : (j ≡ i → n ≡ m → ⊥) → with_call calls n j it m i ≡ calls m i
  other_call other = by (cases_eq m n) (cases_eq i j)
    where
      by : (m ≡ n) ⊎ (m ≢ n) → (i ≡ j) ⊎ (i ≢ j) → with_call calls n j it m i ≡ calls m i
      by (inr nm) e = ap (λ (f : ℕ → Option X). f i) (at_other calls n (with_at (calls n) j it) m nm)
      by (inl em) (inl e) = absurd (other (sym e) (sym em))
      by (inl em) (inr ne) =
          ap (λ (f : ℕ → Option X). f i) (at_same calls n (with_at (calls n) j it) m em) ∙ at_other (calls n) j it i ne ∙ ap (λ (x : ℕ). calls x i) (sym em)

same_caller : (i m j n : ℕ) → is_its i m j n ≡ true → (j ≡ i) × (n ≡ m)
same_caller i m j n e = let k = and_both (j == i) (n == m) e in (grind (arith, k.0), grind (arith, k.1))

another : (i m j n : ℕ) → is_its i m j n ≡ false → j ≡ i → n ≡ m → ⊥
another i m j n e a b = absurd (grind (arith, e, a, b))

module _ {K V : Type 0} where
  -- a call that goes on as a counting is that machine
  as_counting : (machine : Machine K V K) (told : Progress (Node K V)) (next : Option (UnderWay K V K)) (c : Sum) → ContinuesAs machine told next → next ≡ Some (Counting c) → machine ≡ kinds.Count c
  as_counting machine told next c goes is = by told goes
    where
      under : (x : UnderWay K V K) → next ≡ Some x → machine_of x ≡ machine → machine ≡ kinds.Count c
      under x there same_machine = sym same_machine ∙ ap machine_of (some_is x (Counting c) (sym there ∙ is))
        where
          some_is : (a b : UnderWay K V K) → Some a ≡ Some b → a ≡ b
          some_is a b e = cc e

      by : (told : Progress (Node K V)) → ContinuesAs machine told next → machine ≡ kinds.Count c
      by progress.Goes g = under g.0 g.1 g.2
      by (progress.Asks about) g = under g.0 g.1 g.2
      by progress.Waits g = under g.0 g.1 g.2
      by progress.Ready g = under g.0 g.1 g.2
      by (progress.Pair word) g = under g.0 g.1 g.2
      by (progress.Gave value) g = under g.0 g.1 g.2
      by (progress.Unstored value) g = under g.0 g.1 g.2
      by (progress.Done answer) g = absurd (cc (g, is))
      by (progress.Refused fault) g = absurd (cc (g, is))

  -- by a reply, or as it is asked, a counting alone is a counting then
  told_counting : (u : UnderWay K V K) (reply : MachineReply V) (c : Sum) → kinds.Count c ≡ (machine_replied (machine_of u) reply).0 → u ≡ Counting c
  told_counting (OnKey k) reply c e = absurd (cc e)
  told_counting (ForRoom r) reply c e = absurd (cc e)
  told_counting (Counting c0) reply c e = ap Counting (sym (cc e))
  told_counting (OverAll o) reply c e = absurd (cc e)

  asked_counting : (u : UnderWay K V K) (c : Sum) → kinds.Count c ≡ (machine_asked (machine_of u)).0 → u ≡ Counting c
  asked_counting (OnKey k) c e = absurd (cc e)
  asked_counting (ForRoom r) c e = absurd (cc e)
  asked_counting (Counting c0) c e = ap Counting (sym (cc e))
  asked_counting (OverAll o) c e = absurd (cc e)

  -- a counting that begins has read nothing
  begins_counting : (same : K → K → Bool) (slot : ℕ → ℕ) (s : Standing K) (j : ℕ) (wanted : Wanted K V) (c : Sum) → begun same slot s j wanted ≡ Counting c → HasRead c []
  begins_counting same slot s j Count c e = let at_start : summing (its slot s j) ≡ c = cc e in ap (λ (x : Sum). x.stands) (sym at_start)
  begins_counting same slot s j _ c e = absurd (cc e)

module _ {K V S : Type 0} (same : K → K → Bool) (hash : S → K → ℕ) (batch_size roots : ℕ) (slot : ℕ → ℕ) (s : Scene K V) (i m : ℕ) (words : List ℕ)
    (before : (c : Sum) → s.calls m i ≡ Some (Counting c) → HasRead c words) where
  -- the step of a counting
  module _ (g : Option ℕ) (told : Answer K V) (n : Scene K V) (came : CallCame same hash batch_size roots slot s i m g told n) where
    its_step : Steps Took value_at s.world.memory (machine_plan same same came.standing.hash (machine_of came.call)) came.memory (came.machine, came.progress)
    its_step = was_stepped s.world.memory g (machine_plan same same came.standing.hash (machine_of came.call)) (came.memory, (came.machine, came.progress)) came.computed

    -- which counting it was, and by which step of it
    abbrev pub StepOf : Sum → Type 0
    StepOf c = (end : Sum × Counted ℕ) × (came.machine ≡ kinds.Count end.0) × (came.progress ≡ of_counting end.1)
        × Added s.world.memory c words (next_shard s.world.memory c c.stands ++ words) end

    pub step_of : (c : Sum) → s.calls m i ≡ Some (Counting c) → came.call ≡ Counting c → StepOf c
    step_of c here is =
        let b = steps_back counted s.world.memory came.memory (sum_plan c) (came.machine, came.progress)
        (subst (λ (u : UnderWay K V K). Steps Took value_at s.world.memory (machine_plan same same came.standing.hash (machine_of u)) came.memory (came.machine, came.progress)) is its_step) in
        (b.0, ap (λ x. x.0) b.2, ap (λ x. x.1) b.2, adds_on s.world.memory c words (before c here) came.memory b.0 b.1)

    goes_on : (c2 : Sum) → came.did.next ≡ Some (Counting c2) → HasRead c2 (shard_of_call s.world.memory (s.calls m i) ++ words)
    goes_on c2 next = by came.call refl
      where
        machine_is : came.machine ≡ kinds.Count c2
        machine_is = as_counting came.machine came.progress came.did.next c2 came.did.goes_on next

        of_kind : (u : UnderWay K V K) → came.call ≡ u → Steps Took value_at s.world.memory (machine_plan same same came.standing.hash (machine_of u)) came.memory (came.machine, came.progress)
        of_kind u is = subst (λ (u : UnderWay K V K). Steps Took value_at s.world.memory (machine_plan same same came.standing.hash (machine_of u)) came.memory (came.machine, came.progress)) is its_step

        counts : (c : Sum) → s.calls m i ≡ Some (Counting c) → StepOf c → HasRead c2 (next_shard s.world.memory c c.stands ++ words)
        counts c here ((c3, counted_as.Goes), is, told_is, added) =
            let same_one : c3 ≡ c2 = cc (is, machine_is) in subst (λ (x : Sum). HasRead x (next_shard s.world.memory c c.stands ++ words)) same_one added.0
        counts c here ((c3, counted_as.Waits), is, told_is, added) = absurd added
        counts c here ((c3, counted_as.Done count), is, told_is, added) =
            absurd (cc (next, subst (λ (p : Progress (Node K V)). ContinuesAs came.machine p came.did.next) told_is came.did.goes_on))
        counts c here ((c3, counted_as.Refused fault), is, told_is, added) = absurd added

        by : (u : UnderWay K V K) → came.call ≡ u → HasRead c2 (shard_of_call s.world.memory (s.calls m i) ++ words)
        by (Counting c) is =
            let here : s.calls m i ≡ Some (Counting c) = came.here ∙ ap Some is in
            subst (λ (o : Option (UnderWay K V K)). HasRead c2 (shard_of_call s.world.memory o ++ words)) (sym here) (counts c here (step_of c here is))
        by (OnKey k) is = absurd (let b = steps_back called s.world.memory came.memory (call_plan same same came.standing.hash k.call) (came.machine, came.progress) (of_kind (OnKey k) is) in
            cc (machine_is, ap (λ x. x.0) b.2))
        by (ForRoom r) is = absurd (let b = steps_back reserved s.world.memory came.memory (reserve_plan came.standing.hash r.reserve) (came.machine, came.progress) (of_kind (ForRoom r) is) in
            cc (machine_is, ap (λ x. x.0) b.2))
        by (OverAll o) is = absurd (let b = steps_back swept s.world.memory came.memory (sweep_plan came.standing.hash o.sweep) (came.machine, came.progress) (of_kind (OverAll o) is) in
            cc (machine_is, ap (λ x. x.0) b.2))

  -- The same by whichever act.
  module _ (n : Scene K V) (c : Sum) (now : n.calls m i ≡ Some (Counting c)) where
    -- an act on a call: its own, or that of others
    own_or_other : (j k : ℕ) (it : Option (UnderWay K V K)) → n.calls ≡ with_call s.calls k j it → (y : Bool) → is_its i m j k ≡ y
        → (own : List ℕ) → (j ≡ i → k ≡ m → it ≡ Some (Counting c) → HasRead c own) → HasRead c (if y then own else words)
    own_or_other j k it is true e own so =
        let both = same_caller i m j k e in
        so both.0 both.1 (sym (its_call s.calls i m j k it both.0 both.1) ∙ ap (λ (f : ℕ → ℕ → Option (UnderWay K V K)). f m i) (sym is) ∙ now)
    own_or_other j k it is false e own so =
        before c (sym (other_call s.calls i m j k it (another i m j k e)) ∙ ap (λ (f : ℕ → ℕ → Option (UnderWay K V K)). f m i) (sym is) ∙ now)

    -- one that leaves what it has read
    stays : (j k : ℕ) (it : Option (UnderWay K V K)) → n.calls ≡ with_call s.calls k j it → (it ≡ Some (Counting c) → s.calls k j ≡ Some (Counting c)) → HasRead c words
    stays j k it is so = subst (λ (w : List ℕ). HasRead c w) (either (is_its i m j k)) (own_or_other j k it is (is_its i m j k) refl words
        (λ e f own. before c (ap (λ (x : ℕ). s.calls x i) (sym f) ∙ ap (s.calls k) (sym e) ∙ so own)))
      where
        either : (y : Bool) → (if y then words else words) ≡ words
        either true = refl
        either false = refl

    same_some : (a b : UnderWay K V K) → Some a ≡ Some b → a ≡ b
    same_some a b e = cc e

    as_it_was : n.calls ≡ s.calls → HasRead c words
    as_it_was is = before c (ap (λ (f : ℕ → ℕ → Option (UnderWay K V K)). f m i) (sym is) ∙ now)

    pub by_act : (act : Act K V S) (told : Answer K V) → Led same hash batch_size roots slot act s told n → HasRead c (read_on i m act s words)
    by_act (BeginsCall j k wanted) told (standing, stands, none, is) =
        own_or_other j k (Some (begun same slot standing j wanted)) (ap (λ (x : Scene K V). x.calls) is) (is_its i m j k) refl []
        (λ e f own. begins_counting same slot standing j wanted c (same_some (begun same slot standing j wanted) (Counting c) own))
    by_act (StepsCall j k g) told came =
        own_or_other j k came.did.next (ap (λ (x : Scene K V). x.calls) came.comes) (is_its i m j k) refl (shard_of_call s.world.memory (s.calls m i) ++ words)
        (λ e f own. by_own j k e f came own)
      where
        by_own : (j k : ℕ) → j ≡ i → k ≡ m → (came : CallCame same hash batch_size roots slot s j k g told n) → came.did.next ≡ Some (Counting c)
            → HasRead c (shard_of_call s.world.memory (s.calls m i) ++ words)
        by_own j k e f = subst (λ (x : ℕ). (came : CallCame same hash batch_size roots slot s x k g told n) → came.did.next ≡ Some (Counting c)
            → HasRead c (shard_of_call s.world.memory (s.calls m i) ++ words)) (sym e)
            (subst (λ (x : ℕ). (came : CallCame same hash batch_size roots slot s i x g told n) → came.did.next ≡ Some (Counting c)
            → HasRead c (shard_of_call s.world.memory (s.calls m i) ++ words)) (sym f) (λ came own. goes_on g told n came c own))
    by_act (TellsCall j k reply) told (standing, stands, u, next, here, machine_is, told_is, kind, is) =
        stays j k (Some next) (ap (λ (x : Scene K V). x.calls) is)
        (λ own. here ∙ ap Some (told_counting u reply c (sym (ap machine_of (same_some next (Counting c) own)) ∙ machine_is)))
    by_act (AsksCall j k) told (u, here, told_is, is) =
        stays j k (Some (asked_on u)) (ap (λ (x : Scene K V). x.calls) is)
        (λ own. here ∙ ap Some (asked_counting u c (sym (ap machine_of (same_some (asked_on u) (Counting c) own)) ∙ asked_machine u)))
    by_act (StopsCall j k) told (u, here, told_is, is) =
        stays j k (unless_stopped (machine_asked (machine_of u)).1 u) (ap (λ (x : Scene K V). x.calls) is) (λ own. here ∙ unstopped (machine_asked (machine_of u)).1 own)
      where
        unstopped : (y : Bool) → unless_stopped y u ≡ Some (Counting c) → Some u ≡ Some (Counting c)
        unstopped true e = absurd (cc e)
        unstopped false e = e
    by_act (BeginsMaking j map hasher given places) told (none, is) = as_it_was (ap (λ (x : Scene K V). x.calls) is)
    by_act (StepsMaking j g) told (b, makes, m2, machine, end, computed, told_is, did, came) = by end did came
      where
        by : (end : Counted Setting) (did : MakingStepsWithEndings V same same batch_size roots slot s.world s.maps s.calls s.makers s.enders j b m2 (machine, end))
            → MakingCame same hash batch_size roots slot s j b did.step.w2 machine n end → HasRead c words
        by counted_as.Goes did is = as_it_was (ap (λ (x : Scene K V). x.calls) is)
        by counted_as.Waits did never = absurd never
        by (counted_as.Done setting) did (standing, made, is) = as_it_was (ap (λ (x : Scene K V). x.calls) is)
        by (counted_as.Refused fault) did is = as_it_was (ap (λ (x : Scene K V). x.calls) is)
    by_act (BeginsEnding j k) told (standing, stands, none, is) = as_it_was (ap (λ (x : Scene K V). x.calls) is)
    by_act (StepsEnding j g) told (f, ends, m2, machine, end, computed, told_is, did, came) = by end did came
      where
        by : (end : Settled (Node K V)) (did : StepsOfEnding V same same batch_size roots slot s.world s.maps s.calls s.makers s.enders j f m2 (machine, end))
            → EndingCame same hash batch_size roots slot s j f did.w2 did.deed machine n end → HasRead c words
        by settled.Goes did (none, is) = as_it_was (ap (λ (x : Scene K V). x.calls) is)
        by settled.Waits did never = absurd never
        by (settled.Gave value) did (b, there, taken, is) = as_it_was (ap (λ (x : Scene K V). x.calls) is)
        by settled.Done did (none, finished, is) = as_it_was (ap (λ (x : Scene K V). x.calls) is)
    by_act (BeginsRow j request) told (w2, happens, maps2, same_maps, none, is) = as_it_was (ap (λ (x : Scene K V). x.calls) is)
    by_act (StepsRow j g) told (w2, computed, happens, maps2, same_maps, none, is) = as_it_was (ap (λ (x : Scene K V). x.calls) is)

module _ {K V S : Type 0} (same : K → K → Bool) (hash : S → K → ℕ) (batch_size roots : ℕ) (slot : ℕ → ℕ) where
  -- whatever is done, who reclaims all has no counting
  by_doing : (i m : ℕ) (words : List ℕ) (p n : Stage V same hash batch_size roots slot) → ((c : Sum) → p.0.calls m i ≡ Some (Counting c) → HasRead c words)
      → (c : Sum) → n.0.calls m i ≡ Some (Counting c) → (doing : Doing K V S) (told : Answer K V) → HasDone V same hash batch_size roots slot doing p told n → HasRead c (read_by i m doing p.0 words)
  by_doing i m words p n before c now (Does act) told (led, idle) = by_act same hash batch_size roots slot p.0 i m words before n.0 c now act told led
  by_doing i m words p n before c now (BeginsReclaiming j) told (none, is, lists, begun) = before c (ap (λ (s : Scene K V). s.calls m i) (sym is) ∙ now)
  by_doing i m words p n before c now (BeginsClearing j) told (none, is, lists, begun) = before c (ap (λ (s : Scene K V). s.calls m i) (sym is) ∙ now)
  by_doing i m words p n before c now (Chooses choice) told (none, is, lists, idle) = before c (ap (λ (s : Scene K V). s.calls m i) (sym is) ∙ now)
  by_doing i m words p n before c now (StepsReclaiming g) told stepped = before c (ap (λ (s : Scene K V). s.calls m i) (sym stepped.did.comes) ∙ now)

module _ {K V S : Type 0} (same : K → K → Bool) (hash : S → K → ℕ) (batch_size roots : ℕ) (slot : ℕ → ℕ) (course : Course V same hash batch_size roots slot) where
  abbrev HaveRead : ℕ → ℕ → Reached V same hash batch_size roots slot → List ℕ → Type 0
  HaveRead i m x words = (c : Sum) → x.0.0.calls m i ≡ Some (Counting c) → HasRead c words

  add_up : (i m : ℕ) (doings : List (Doing K V S)) (x y : Reached V same hash batch_size roots slot) (words : List ℕ) → HaveRead i m x words
      → (led : LedOn V same hash batch_size roots slot course doings x y) → HaveRead i m y (words_on same hash batch_size roots slot course i m doings x y words led)
  add_up i m [] x y words before led c here = before c (ap (λ (z : Reached V same hash batch_size roots slot). z.0.0.calls m i) (sym led) ∙ here)
  add_up i m (doing ∷ doings) x y words before (may, led) c here =
      add_up i m doings (on_by V same hash batch_size roots slot course x doing may) y (read_by i m doing x.0.0 words)
      (λ c here. by_doing same hash batch_size roots slot i m words x.0 (course.next x.0 doing may) before c here doing (course.told x.0 doing may) (course.leads x.0 doing may)) led c here

  pub countings_add_up : CountingsAddUp same hash batch_size roots slot course
  countings_add_up doings x led i m = add_up i m doings (nothing_done V same hash batch_size roots slot course) x [] (λ c here. absurd (cc here)) led

  module _ (doings : List (Doing K V S)) (x : Reached V same hash batch_size roots slot) (led : LedTo V same hash batch_size roots slot course doings x) (i m : ℕ) (c : Sum)
      (here : x.0.0.calls m i ≡ Some (Counting c)) (s : Standing K) (stands : x.0.0.maps m ≡ Some s) (g : Option ℕ) (may : MayDo V same hash batch_size roots slot (Does (StepsCall i m g)) x.0) where
    abbrev words : List ℕ
    words = words_read same hash batch_size roots slot course i m doings x led

    abbrev came : CallCame same hash batch_size roots slot x.0.0 i m g (course.told x.0 (Does (StepsCall i m g)) may) (course.next x.0 (Does (StepsCall i m g)) may).0
    came = (course.leads x.0 (Does (StepsCall i m g)) may).0

    abbrev Step : Type 0
    Step = StepOf same hash batch_size roots slot x.0.0 i m words (λ c0 here0. countings_add_up doings x led i m c0 here0) g (course.told x.0 (Does (StepsCall i m g)) may) (course.next x.0 (Does (StepsCall i m g)) may).0 came c

    its_step_is : Step
    its_step_is = step_of same hash batch_size roots slot x.0.0 i m words (λ c0 here0. countings_add_up doings x led i m c0 here0) g (course.told x.0 (Does (StepsCall i m g)) may)
        (course.next x.0 (Does (StepsCall i m g)) may).0 came c here (call_is came.call (sym came.here ∙ here))
      where
        call_is : (u : UnderWay K V K) → Some u ≡ Some (Counting c) → u ≡ Counting c
        call_is u e = cc e

    facts : SumFacts (in_slot s.setting (slot i)) c
    facts = (((x.0.1.makings.standing.each m s stands).stand) i (Counting c) here).1

    few : length words ≤ s.setting.mask
    few = subst (λ (p : Summing). CountsShards (in_slot s.setting (slot i)) p) (countings_add_up doings x led i m c here) facts.1

    mask_is : c.setting.mask ≡ s.setting.mask
    mask_is = ap (λ (x : Setting). x.mask) facts.0

    abbrev Told : ℕ → List ℕ → Type 0
    Told count more = (length more ≡ suc s.setting.mask) × (count ≡ count_in (sum more % 2 ^ 64))

    answered : (count : ℕ) → came.progress ≡ progress.Done (answers.Count count) → Step → Told count (next_shard x.0.0.world.memory c c.stands ++ words)
    answered count done ((c3, counted_as.Goes), is, told, added) = absurd (cc (told, done))
    answered count done ((c3, counted_as.Waits), is, told, added) = absurd added
    answered count done ((c3, counted_as.Done count2), is, told, (past, more, sum_is)) =
        let same_count : count2 ≡ count = cc (told, done) in (omega (arith, past, more, few, mask_is), sym same_count ∙ sum_is)
    answered count done ((c3, counted_as.Refused fault), is, told, added) = absurd added

    pub answers_sum : (count : ℕ) → course.told x.0 (Does (StepsCall i m g)) may ≡ OfCall (progress.Done (answers.Count count)) → Told count (shard_of_call x.0.0.world.memory (x.0.0.calls m i) ++ words)
    answers_sum count told =
        subst (λ (o : Option (UnderWay K V K)). Told count (shard_of_call x.0.0.world.memory o ++ words)) (sym here) (answered count (done came.progress (sym came.tells ∙ told)) its_step_is)
      where
        done : (p : Progress (Node K V)) → OfCall p ≡ OfCall (progress.Done (answers.Count count)) → p ≡ progress.Done (answers.Count count)
        done p e = cc e

  pub countings_answer : CountingsAnswerTheSum same hash batch_size roots slot course
  countings_answer doings x led i m c here s stands g may count told = answers_sum doings x led i m c here s stands g may count told
