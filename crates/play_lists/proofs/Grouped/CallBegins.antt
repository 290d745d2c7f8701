-- A call begins, as the first thing that an event does: the list of acts goes on by that, and its caller goes by the number that it has.
use Rattle.std.specs.Prelude.{◌≤◌, ◌==◌, not, if◌then◌else◌, Option, Some, None, option_map, cond, filter, find, length, slice_index_or}
use Rattle.std.specs.List.{AllByRecursion, list_any}
use Rattle.std.proofs.Common.{◌≡◌, ℕ, Bool, true, false, List, [], ◌∷◌, refl, sym, ap, subst, arith, ◌∙◌}
use Rattle.std.proofs.lemmas.Bool.{eqb-true}
use Rattle.run_schedules.specs.Runs.Same.{is_same}
use Rattle.run_schedules.proofs.Runs.Sames.{same_is, same_refl}
use Rattle.map_tables.specs.declared.setting.Setting.{Setting}
use Rattle.many_acts.specs.Given.CallersTogether.{in_slot}
use Rattle.many_acts.specs.Given.FinishesMaps.{Standing}
use Rattle.many_acts.specs.Given.ScenesScene.{Scene, slot_of}
use Rattle.many_acts.specs.Given.ScenesDeclared.row.SlotUse.TheVariants as used
use Rattle.run_schedules.specs.declared.call.Call.{Call}
use Rattle.run_schedules.specs.declared.event.Event.{Event}
use Rattle.run_schedules.specs.declared.outcome.Outcome.TheVariants as outcome
use Rattle.run_schedules.specs.Schedules.After.{moment}
use Rattle.run_schedules.specs.Schedules.Entry.{Entry}
use Rattle.run_kept.specs.Given.EffectsKnown.{Known}
use Rattle.run_finds.specs.Given.ExecutorBeginning.{BeginsThere}
use Rattle.run_finds.specs.Given.ExecutorIsThere.{IsThere, StaysGiven, use_at, work_of}
use Rattle.run_finds.specs.Given.ExecutorDeclared.executor.Executor.{Executor}
use Rattle.run_finds.specs.Given.NamedMachines.{machine_for}
use Rattle.run_finds.specs.Given.NamedSeen.{kind_of}
use Rattle.run_finds.specs.Given.ExecutorDeclared.caller.NamedCaller.{NamedCaller}
use Rattle.many_acts.specs.Acts.Acts.{BeginsCall, Nothing}
use Rattle.many_acts.specs.Acts.Lists.{Course}
use Rattle.run_schedules.specs.Deeds.Deeds.{Begins, Entry as Act}
use Rattle.play_lists.specs.Drives.Executors.{IsAct}
use Rattle.play_lists.proofs.Drives.Executors.{executors_act}
use Rattle.play_lists.specs.Played.Play.{Calling, State, begun_call, call_begun}
use Rattle.play_lists.proofs.Played.PlayedAs.{played_as}
use Rattle.play_lists.specs.Grouped.Grouping.{MayHave, Names, beginner_of, number_called, without_number}
use Rattle.play_lists.specs.Grouped.Called.{CallersAre, IsCalledAs, PlaysSo}
use Rattle.play_lists.specs.Grouped.Reach.{Reach}
use Rattle.play_lists.proofs.Grouped.Callers.{call_beside, call_here, under}
use Rattle.play_lists.specs.Agrees.Fresh.{is_taken}
use Rattle.play_lists.proofs.Grouped.Midst.{InEvent, taken_on}
use Rattle.play_lists.proofs.Grouped.OneMore.{one_act}
use Rattle.play_lists.proofs.Grouped.Wanted.{call_back, wanted_for, wanted_machine}
use Rattle.run_finds.proofs.Given.General.{both_false as or_parts, same_some}

-- whoever begins is called by its number, and others as they were
pub newest_called : (own : List ℕ) (i : ℕ) (names : Names) → number_called own ((own, i) ∷ names) ≡ Some i
newest_called own i names = ap (λ (b : Bool). option_map (λ (it : List ℕ × ℕ). it.1) (cond b (Some (own, i)) (find (λ it. is_same it.0 own) names))) (same_refl own)

others_called : (own other : List ℕ) (i : ℕ) (names : Names) → is_same other own ≡ false → number_called other ((own, i) ∷ names) ≡ number_called other names
others_called own other i names apart =
    ap (λ (b : Bool). option_map (λ (it : List ℕ × ℕ). it.1) (cond b (Some (own, i)) (find (λ it. is_same it.0 other) names))) (by (is_same own other) refl)
  where
    by : (b : Bool) → is_same own other ≡ b → is_same own other ≡ false
    by false e = e
    by true e = absurd (let it = same_is own other e in let f : is_same other own ≡ true = subst (λ (x : List ℕ). is_same x own ≡ true) it (same_refl own) in let g : true ≡ false = sym f ∙ apart in cc g)

-- who goes by another number goes by it still, where this one goes to somebody else
kept_called : (other : List ℕ) (i n : ℕ) (names : Names) → (n == i) ≡ false → number_called other names ≡ Some n → number_called other (without_number i names) ≡ Some n
kept_called other i n [] apart found = absurd (cc found)
kept_called other i n (x ∷ names) apart found = by (λ one. kept_called other i n names apart one) (is_same x.0 other) refl (x.1 == i) refl found
  where
    second : Option (List ℕ × ℕ) → Option ℕ
    second o = option_map (λ (it : List ℕ × ℕ). it.1) o

    rest : Option (List ℕ × ℕ)
    rest = find (λ it. is_same it.0 other) (without_number i names)

    by : (number_called other names ≡ Some n → number_called other (without_number i names) ≡ Some n) → (b : Bool) → is_same x.0 other ≡ b → (q : Bool) → (x.1 == i) ≡ q → second (cond b (Some x) (find (λ it. is_same it.0 other) names)) ≡ Some n
        → number_called other (if not q then x ∷ without_number i names else without_number i names) ≡ Some n
    by again true e true f one = absurd (let its : x.1 ≡ n = same_some x.1 n one in let g : (n == i) ≡ true = ap (λ (k : ℕ). k == i) (sym its) ∙ f in cc (g, apart))
    by again true e false f one = ap (λ (b : Bool). second (cond b (Some x) rest)) e ∙ one
    by again false e true f one = again one
    by again false e false f one = ap (λ (b : Bool). second (cond b (Some x) rest)) e ∙ again one

-- the entry of a call that begins
abbrev entry : {K V : Type 0} → (i m : ℕ) → Call K V → Act K V
entry i m call = record { deed = Begins i (slot_of i) m call; outcome = outcome.Goes; effects = []; refused = false }

module _ {K V S : Type 0} (log : List (Entry K V)) (event : Event K V) (own : List ℕ) (beginner : beginner_of event ≡ own) (i m : ℕ) (call : Call K V)
    (may : (names : Names) → number_called own names ≡ Some i → MayHave names (moment log) event (Begins i (slot_of i) m call)) (calls : List (NamedCaller V))
    (free : list_any (λ d. is_same d.name own) calls ≡ false) (apart : AllByRecursion (λ d. (d.number == i) ≡ false) calls) (caller : NamedCaller V) (named : caller.name ≡ own) (numbered : caller.number ≡ i)
    (on : caller.map ≡ m) (kind : caller.kind ≡ kind_of call) (keeps_none : caller.value ≡ None) where
  module _ (x y : State K V S) (it : Calling K V) (its : kind_of it.call ≡ kind_of call) (none : it.value ≡ None) (history : y.history ≡ entry i m call ∷ x.history)
      (here : y.now.calls m i ≡ Some it) (beside : (n j : ℕ) → (j == i) ≡ false → y.now.calls n j ≡ x.now.calls n j) where
    others : (names : Names) (xs : List (NamedCaller V)) → list_any (λ d. is_same d.name own) xs ≡ false → AllByRecursion (λ d. (d.number == i) ≡ false) xs → AllByRecursion (λ d. IsCalledAs names x d) xs
        → AllByRecursion (λ d. IsCalledAs ((own, i) ∷ without_number i names) y d) xs
    others names [] f a all = tt
    others names (d ∷ xs) f a all =
        let two = or_parts (is_same d.name own) (list_any (λ c. is_same c.name own) xs) f in (
          record {
            name = others_called own d.name i (without_number i names) two.0 ∙ kept_called d.name i d.number names a.0 all.0.name;
            call = all.0.call;
            here = beside d.map d.number a.0 ∙ all.0.here;
            kind = all.0.kind;
            value = all.0.value;
          },
          others names xs two.1 a.1 all.1,
        )

    itself : (names : Names) → IsCalledAs ((own, i) ∷ without_number i names) y caller
    itself names = record {
      name = ap (λ (n : List ℕ). number_called n ((own, i) ∷ without_number i names)) named ∙ newest_called own i (without_number i names) ∙ ap Some (sym numbered);
      call = it;
      here = ap (λ (k : ℕ). y.now.calls k caller.number) on ∙ ap (y.now.calls m) numbered ∙ here;
      kind = its ∙ sym kind;
      value = none ∙ sym keeps_none;
    }

    -- none of those before has its number
    none_so : (xs : List (NamedCaller V)) → AllByRecursion (λ d. (d.number == i) ≡ false) xs → length (filter (λ d. d.number == i) xs) ≤ 0
    none_so [] a = omega arith
    none_so (d ∷ xs) a = one (d.number == i) a.0 (none_so xs a.1)
      where
        one : (b : Bool) → b ≡ false → length (filter (λ (c : NamedCaller V). c.number == i) xs) ≤ 0
            → length (cond b (d ∷ filter (λ (c : NamedCaller V). c.number == i) xs) (filter (λ (c : NamedCaller V). c.number == i) xs)) ≤ 0
        one true e l = absurd (cc e)
        one false e l = l

    once : (n : ℕ) → length (filter (λ d. d.number == n) calls) ≤ 1 → length (filter (λ d. d.number == n) (caller ∷ calls)) ≤ 1
    once n was = one (caller.number == n) refl
      where
        one : (b : Bool) → (caller.number == n) ≡ b → length (cond b (caller ∷ filter (λ (d : NamedCaller V). d.number == n) calls) (filter (λ (d : NamedCaller V). d.number == n) calls)) ≤ 1
        one true e =
            let n_is : n ≡ i = sym (eqb-true caller.number n e) ∙ numbered in
            let l = subst (λ (k : ℕ). length (filter (λ (d : NamedCaller V). d.number == k) calls) ≤ 0) (sym n_is) (none_so calls apart) in omega (arith, l)
        one false e = was

    pub begins_so : PlaysSo log calls x → InEvent log event [] 0 outcome.Goes (caller ∷ calls) y
    begins_so so =
        let rest = without_number i so.names in
        let same_names : (own, i) ∷ rest ≡ (beginner_of event, i) ∷ rest = ap (λ (n : List ℕ). (n, i) ∷ rest) (sym beginner) in
        record {
          known = so.names;
          before = x.history;
          grouping = so.grouping;
          piece = entry i m call ∷ [];
          history = history;
          effects = refl;
          counts = refl;
          comes = refl;
          deeds = (subst (λ (n : Names). MayHave n (moment log) event (Begins i (slot_of i) m call)) same_names (may ((own, i) ∷ rest) (newest_called own i rest)), tt);
          callers = subst (λ (n : Names). CallersAre n (caller ∷ calls) y) same_names
              (record { each = (itself so.names, others so.names calls free apart so.callers.each); once = λ n. once n (so.callers.once n) });
          fresh = λ n l. ap (is_taken n) history ∙ taken_on n (entry i m call) x.history refl (so.fresh n (omega (arith, l)));
        }

  module _ (same : K → K → Bool) (by_hasher : S → K → ℕ) (shards : ℕ) (e e2 : Executor K V S) (given : StaysGiven e e2) (any : Course V same by_hasher e.batch_size e.roots slot_of) (slot : ℕ) (at_slot : slot_of i ≡ slot)
      (setting : Setting) (found : slice_index_or e.maps.items m None ≡ Some setting) (inside : use_at e slot ≡ used.Inside) (fresh : work_of e i ≡ None)
      (begins : (s : Scene K V) → IsThere same (by_hasher e.hasher) e s → BeginsThere same (by_hasher e.hasher) m (machine_for (record setting { slot = slot }) (by_hasher e.hasher) call) i s e e2) where
    is : (s : Scene K V) → IsThere same (by_hasher e.hasher) e s → IsAct same by_hasher e e2 s (BeginsCall i m (wanted_for call)) Nothing
    is s there =
        let st = under (λ (standing : Standing K). standing.setting) (s.maps m) setting (there.maps m ∙ found) in
        (executors_act V same by_hasher e e2 s there given i).0.begin m (machine_for (record setting { slot = slot }) (by_hasher e.hasher) call) (begins s there) fresh st.0 st.1 (ap (use_at e) at_slot ∙ inside)
        (wanted_for call)
        (wanted_machine same st.0 i call ∙ ap (λ (x : Setting). machine_for (in_slot x (slot_of i)) st.0.hash call) st.2 ∙ ap (λ (x : ℕ). machine_for (in_slot setting x) st.0.hash call) at_slot
        ∙ ap (λ (h : K → ℕ). machine_for (in_slot setting slot) h call) (there.held.hashes m st.0 st.1))

    -- So the list goes on where it begins.
    pub call_begins : (noted : Known) → Reach same by_hasher e.hasher e.batch_size e.roots shards (λ (x : State K V S). PlaysSo log calls x) e noted
        → Reach same by_hasher e.hasher e.batch_size e.roots shards (λ (x : State K V S). InEvent log event [] 0 outcome.Goes (caller ∷ calls) x) e2 noted
    call_begins noted at =
        one_act same by_hasher shards e e2 given any noted noted (λ (x : State K V S). PlaysSo log calls x) (λ (x : State K V S). InEvent log event [] 0 outcome.Goes (caller ∷ calls) x)
        (BeginsCall i m (wanted_for call)) Nothing (tt, tt) is (λ x so. tt) (λ value. value)
        (λ value aborts x y p stage there its played knows so.
        (let came = played_as same by_hasher e.batch_size e.roots aborts x y (BeginsCall i m (wanted_for call)) played in
        let comes : y ≡ call_begun i m by_hasher call x came.0 = came.2 ∙ ap (λ (c : Call K V). call_begun i m by_hasher c x came.0) (call_back call) in
        let z = call_begun i m by_hasher call x came.0 in
        let it = begun_call i m by_hasher call came.0 in (
          ap (λ (w : State K V S). w.known) comes ∙ knows,
          subst (λ (w : State K V S). InEvent log event [] 0 outcome.Goes (caller ∷ calls) w) (sym comes)
              (begins_so x z it refl refl refl (call_here x.now.calls m i (Some it)) (λ n j other. call_beside x.now.calls m i (Some it) n j other) so),
        ))) at
