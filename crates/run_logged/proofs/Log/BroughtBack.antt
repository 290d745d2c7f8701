-- What comes back is what was taken away: a pair that a step hands out is as it was stored, under the number that the step tells.
use Rattle.std.specs.Prelude.{◌≡◌, ◌-◌, ℕ, ◌&&◌, nat_lt, Bool, true, false, List, [], ◌∷◌, ◌++◌, length, flat_map, Option, Some, None, slice_get, if◌then◌else◌}
use Rattle.std.specs.List.{AllByRecursion}
use Rattle.std.proofs.Common.{refl, sym, ap, subst, ◌∙◌, arith}
use Rattle.std.proofs.lemmas.Grind.{flat_map-append}
use Rattle.std.proofs.lemmas.List.{append-nil, append_assoc, append_cancel_left, length-append}
use Rattle.run_schedules.specs.Given.SeizeWordsDeclared.at.At.TheVariants.{Root, Used, Slot, Entry, Word}
use Rattle.run_schedules.specs.Given.SeizeWordsMem.{value_at}
use Rattle.seize.specs.World.{World}
use Rattle.seize.specs.declared.rows.settle.Settled.{Settled}
use Rattle.seize.specs.declared.rows.settle.Settled.TheVariants as settled
use Rattle.papaya_raw.specs.Given.TablesDeclared.node.Node.{Node}
use Rattle.papaya_raw.specs.Given.TablesDeclared.node.Node.TheVariants as node
use Rattle.run_schedules.specs.declared.ended.Pair.{Pair}
use Rattle.run_schedules.specs.Runs.Pairs.{numbers}
use Rattle.run_schedules.specs.Runs.Runs.{IsStored}
use Rattle.run_schedules.proofs.Runs.Pairs.Held.{numbers-append}
use Rattle.run_schedules.specs.declared.effect.Effect.{Effect}
use Rattle.run_schedules.specs.declared.effect.Effect.TheVariants.{Asked, PairGivenUp}
use Rattle.run_schedules.specs.declared.effect.Growth.TheVariants.{ABucket}
use Rattle.run_schedules.specs.declared.effect.TableId.{TableId}
use Rattle.run_schedules.specs.Schedules.Effects.{pairs_back, with_effects}
use Rattle.run_schedules.specs.Schedules.Moment.{Moment}
use Rattle.run_effects.specs.declared.changed.Changed.{Changed}
use Rattle.run_effects.specs.declared.changed.Changed.TheVariants as changed
use Rattle.run_effects.specs.Effects.Effects.{effects_of, names_same, pair_taken, table_taken, taken_by}
use Rattle.run_effects.specs.Effects.Known.{Known, known}
use Rattle.run_effects.specs.declared.acting.Acting.{Acting}
use Rattle.run_effects.specs.declared.acting.Acting.TheVariants as acts
use Rattle.run_effects.specs.declared.role.Role.{Role}
use Rattle.run_effects.specs.declared.role.Role.TheVariants as role
use Rattle.run_executor.specs.declared.executor.Executor.{Executor}
use Rattle.run_shows.specs.declared.row.RowTold.{RowTold}
use Rattle.run_shows.specs.declared.row.RowTold.TheVariants as told
use Rattle.run_shows.specs.declared.row.SlotRow.{SlotRow}
use Rattle.run_executor.specs.declared.worker.Work.TheVariants.{OnSlot}
use Rattle.run_shows.specs.Given.FinishesEndings.{Finishing}
use Rattle.run_shows.specs.Given.FinishesFactsEnds.{taken_by as taken_of}
use Rattle.run_shows.specs.Given.FinishesMaps.{Standing}
use Rattle.run_shows.specs.Follows.Blocks.{HasRole}
use Rattle.run_shows.specs.Follows.Steps.{TakesNone}
use Rattle.run_shows.specs.Others.Endings.{ObservesNext}
use Rattle.run_shows.specs.Others.Gives.{GivesWhatItTook}
use Rattle.run_shows.proofs.Others.Ends.{tells_next}
use Rattle.run_shows.proofs.Others.Quiet.{stored_none}
use Rattle.run_shows.proofs.Others.RowGives.{rows_give_what_they_took}
use Rattle.run_shows.proofs.Others.RowPlans.{TellsRow, row_tells}
use Rattle.run_logged.specs.Log.Back.{BringsBack, ComesBack, EndBringsBack, number_back, number_in, number_last, numbered, pair_back, row_back, settled_back}
use Rattle.run_logged.specs.Log.Ends.{EndRan, EndSteps, is_done}
use Rattle.run_kept.specs.Ends.{ended_as}
use Rattle.run_logged.specs.Log.OnSlots.{OnSlotRan, has_come}
use Rattle.run_logged.specs.Log.Shown.{IsShown}
use Rattle.run_logged.specs.declared.logged.Logged.{Logged}
use Rattle.run_executor.specs.Executing.IsThere.{IsThere, held_by, work_of}
use Rattle.run_executor.specs.Executing.OnSlots.{RowStepsThere}
use Rattle.run_shows.specs.Scenes.Ending.{EndingHasOutcome, EndingLeads}
use Rattle.run_shows.specs.Scenes.Scene.{Scene}
use Rattle.run_executor.proofs.Executing.RowLeads.{held_row}

-- the last effect of a list
at_end : (ys : List Effect) (f : Effect) → slice_get (ys ++ f ∷ []) (length ys) ≡ Some f
at_end [] f = refl
at_end (y ∷ ys) f = at_end ys f

last_is : (ys : List Effect) (f : Effect) → number_last (ys ++ f ∷ []) ≡ number_back f
last_is ys f = ap (λ (n : ℕ). number_in (slice_get (ys ++ f ∷ []) n)) place ∙ ap number_in (at_end ys f)
  where
    place : length (ys ++ f ∷ []) - 1 ≡ length ys
    place = let long = length-append ys (f ∷ []) in omega (arith, long)

-- a pair that is taken away comes back, and a table does not
number_taken : (acting : Acting) (n : ℕ) → number_back (pair_taken acting n) ≡ Some n
number_taken (acts.Call caller map) n = refl
number_taken (acts.Making map) n = refl
number_taken (acts.Ending map) n = refl
number_taken acts.Row n = refl

back_taken : (acting : Acting) (n : ℕ) → flat_map pairs_back (pair_taken acting n ∷ []) ≡ n ∷ []
back_taken (acts.Call caller map) n = refl
back_taken (acts.Making map) n = refl
back_taken (acts.Ending map) n = refl
back_taken acts.Row n = refl

none_taken : (acting : Acting) (t : TableId) → flat_map pairs_back (table_taken acting t ∷ []) ≡ []
none_taken (acts.Call caller map) t = refl
none_taken (acts.Making map) t = refl
none_taken (acts.Ending map) t = refl
none_taken acts.Row t = refl

-- a row that takes no block away reclaims nothing
no_pairs : (q : Bool) → flat_map pairs_back (if q then [] else []) ≡ []
no_pairs true = refl
no_pairs false = refl

no_pairs_asked : (q : Bool) → flat_map pairs_back (if q then [] else Asked ABucket ∷ []) ≡ []
no_pairs_asked true = refl
no_pairs_asked false = refl

pub row_quiet : (noted : Known) (x : Changed) → TellsRow x → TakesNone x → flat_map pairs_back (effects_of acts.Row noted x) ≡ []
row_quiet noted changed.Nothing is none = refl
row_quiet noted (changed.Wrote (Slot s field) was now) is none = refl
row_quiet noted (changed.Wrote (Entry b field) was now) is none = no_pairs (names_same was now)
row_quiet noted (changed.Wrote (Root r) was now) is none = absurd is
row_quiet noted (changed.Wrote (Used r) was now) is none = absurd is
row_quiet noted (changed.Wrote (Word b field) was now) is none = absurd is
row_quiet noted (changed.Made kind b) is none = absurd is
row_quiet noted (changed.Unmade kind) is none = absurd is
row_quiet noted (changed.Took b) is none = absurd none
row_quiet noted (changed.Roomed bucket had) is none = no_pairs_asked (had && nat_lt bucket noted.buckets)

module _ {K V : Type 0} where
  -- these pairs are those that the effects reclaim, each as it was stored
  abbrev pub IsBack : List (K × V) → List Effect → List (Pair K V) → Type 0
  IsBack stored did more = (numbers more ≡ flat_map pairs_back did) × AllByRecursion (IsStored stored) more

  pub nothing_back : (stored : List (K × V)) (did : List Effect) (more : List (Pair K V)) → more ≡ [] → flat_map pairs_back did ≡ [] → IsBack stored did more
  nothing_back stored did more none silent = (ap numbers none ∙ sym silent, subst (AllByRecursion (IsStored stored)) (sym none) tt)

  -- what was in a block, by what that was noted as
  module _ (w : World (Node K V)) (stored : List (K × V)) (b : ℕ) (value : Node K V) (held : value_at w.memory b ≡ Some value) (acting : Acting) (ys : List Effect) where
    the : (other : Node K V) → value_at w.memory b ≡ Some other → value ≡ other
    the other is = by (sym held ∙ is)
      where
        by : ◌≡◌ {A = Option (Node K V)} (Some value) (Some other) → value ≡ other
        by e = cc e

    its : (other : Node K V) → value_at w.memory b ≡ Some other → (did : List Effect) → pair_back value (ys ++ did) ≡ pair_back other (ys ++ did)
    its other is did = ap (λ (x : Node K V). pair_back x (ys ++ did)) (the other is)

    own : (x : Node K V) → pair_back x (ys ++ PairGivenUp ∷ []) ≡ []
    own (node.Pair k v) = ap (numbered k v) (last_is ys PairGivenUp)
    own (node.Table len limit turn) = refl
    own node.Shards = refl

    pair_was : (n : ℕ) (k : K) (v : V) → value_at w.memory b ≡ Some (node.Pair k v) → pair_back value (ys ++ pair_taken acting n ∷ []) ≡ record { number = n; key = k; value = v } ∷ []
    pair_was n k v is = its (node.Pair k v) is (pair_taken acting n ∷ []) ∙ ap (numbered k v) (last_is ys (pair_taken acting n) ∙ number_taken acting n)

    pub taken_back : (r : Role) → HasRole w stored b r → IsBack stored (taken_by acting r) (pair_back value (ys ++ taken_by acting r))
    taken_back role.Free has = absurd (cc (has, held))
    taken_back (role.OwnPair caller) has = nothing_back stored (taken_by acting (role.OwnPair caller)) (pair_back value (ys ++ taken_by acting (role.OwnPair caller))) (own value) refl
    taken_back (role.OwnTable turn shape) has =
        nothing_back stored (taken_by acting (role.OwnTable turn shape)) (pair_back value (ys ++ taken_by acting (role.OwnTable turn shape)))
        (its (node.Table shape.len shape.limit turn) has.1 (taken_by acting (role.OwnTable turn shape))) refl
    taken_back (role.Pair n) has =
        let was = pair_was n has.0 has.1 has.3 in (ap numbers was ∙ sym (back_taken acting n), subst (AllByRecursion (IsStored stored)) (sym was) (has.2, tt))
    taken_back (role.Table t len) has =
        nothing_back stored (taken_by acting (role.Table t len)) (pair_back value (ys ++ taken_by acting (role.Table t len)))
        (its (node.Table len has.0 t.turn) has.1 (taken_by acting (role.Table t len))) (none_taken acting t)
    taken_back (role.Counter map) has = nothing_back stored [] (pair_back value (ys ++ [])) (its node.Shards has []) refl

  -- nothing has come back yet, and then more has
  pub none_back : (stored : List (K × V)) (b : List (Pair K V)) → ComesBack stored [] b b
  none_back stored b = record { more = []; follow = sym (append-nil b); reclaimed = refl; contents = tt }

  all_stored : (stored : List (K × V)) (xs ys : List (Pair K V)) → AllByRecursion (IsStored stored) xs → AllByRecursion (IsStored stored) ys → AllByRecursion (IsStored stored) (xs ++ ys)
  all_stored stored [] ys f g = g
  all_stored stored (x ∷ xs) ys f g = (f.0, all_stored stored xs ys f.1 g)

  pub more_back : (stored : List (K × V)) (first did : List Effect) (b0 b1 b2 : List (Pair K V)) → ComesBack stored first b0 b1 → (more : List (Pair K V)) → IsBack stored did more → b2 ≡ b1 ++ more
      → ComesBack stored (first ++ did) b0 b2
  more_back stored first did b0 b1 b2 was more its follows = record {
    more = was.more ++ more;
    follow = follows ∙ ap (λ (l : List (Pair K V)). l ++ more) was.follow ∙ append_assoc b0 was.more more;
    reclaimed =
        numbers-append was.more more ∙ ap (λ (l : List ℕ). l ++ numbers more) was.reclaimed ∙ ap (λ (l : List ℕ). flat_map pairs_back first ++ l) its.0
        ∙ sym (flat_map-append pairs_back first did);
    contents = all_stored stored was.more more was.contents its.1;
  }

module _ {K V : Type 0} where
  come_none : (said : RowTold (Node K V)) (zs : List Effect) → has_come said ≡ true → row_back said zs ≡ []
  come_none told.Goes zs e = refl
  come_none told.Waits zs e = refl
  come_none (told.Gave value) zs e = absurd (cc e)
  come_none told.Done zs e = refl
  come_none (told.Registered slot) zs e = refl
  come_none (told.Refused fault) zs e = refl

  -- the last step hands nothing out: of a row,
  pub row_comes : (said : RowTold (Node K V)) (zs : List Effect) (b : List (Pair K V)) → has_come said ≡ true → b ≡ b ++ row_back said zs
  row_comes said zs b come = sym (append-nil b) ∙ ap (λ (l : List (Pair K V)). b ++ l) (sym (come_none said zs come))

  done_none : (said : Settled (Node K V)) (zs : List Effect) → is_done said ≡ true → settled_back said zs ≡ []
  done_none settled.Goes zs e = refl
  done_none settled.Waits zs e = refl
  done_none (settled.Gave value) zs e = absurd (cc e)
  done_none settled.Done zs e = refl

  -- and of an end
  pub end_comes : (said : Settled (Node K V)) (zs : List Effect) (b : List (Pair K V)) → is_done said ≡ true → b ≡ b ++ settled_back said zs
  end_comes said zs b done = sym (append-nil b) ∙ ap (λ (l : List (Pair K V)). b ++ l) (sym (done_none said zs done))

module _ {K V S : Type 0} where
  -- rows on slots
  pub brings_none : (l : Logged K V S) (xs : List Effect) (b : List (Pair K V)) → BringsBack xs xs l b b
  brings_none l xs b = ([], sym (append-nil xs), λ same hash name m s shown. none_back m.stored b)

  module _ (same : K → K → Bool) (hash : K → ℕ) (name : ℕ → List ℕ) (m : Moment K V) (s : Scene K V) (mid : Logged K V S) (shown : IsShown same hash name m mid s) (new : Executor K V S) (i : ℕ)
      (ys : List Effect) where
    abbrev noted : Known
    noted = known mid.notes

    module _ (said : RowTold (Node K V)) (row : SlotRow) (here : work_of mid.executor i ≡ Some (OnSlot row)) (leads : RowStepsThere same hash i said s mid.executor new) where
      abbrev does : List Effect
      does = effects_of acts.Row noted new.memory.changed

      quiet : TakesNone new.memory.changed → IsBack m.stored does []
      quiet none =
          let to = leads row here in
          nothing_back m.stored does [] refl
          (row_quiet noted new.memory.changed (row_tells mid.executor.memory.memory new.memory.memory new.memory.changed (to.1, said) row to.2) none)

      row_brings : IsBack m.stored does (row_back said (ys ++ does))
      row_brings = by said (rows_give_what_they_took K V same (λ map. hash) s (held_by mid.executor) (held_by new) i said (held_row same hash s mid.executor new shown.is_at i said leads) row (leads row here).0)
        where
          by : (t : RowTold (Node K V)) → GivesWhatItTook mid.executor.memory.memory new.memory.changed t → IsBack m.stored does (row_back t (ys ++ does))
          by (told.Gave value) (b, took, held) =
              subst (λ (xs : List Effect). IsBack m.stored xs (pair_back value (ys ++ xs))) (sym (ap (effects_of acts.Row noted) took))
              (taken_back s.world m.stored b value (ap (λ x. value_at x b) shown.is_at.held.memory ∙ held) acts.Row ys (noted.roles b) (shown.shows.all.shown.blocks.roles b))
          by told.Goes none = quiet none
          by told.Waits none = quiet none
          by told.Done none = quiet none
          by (told.Registered slot) none = quiet none
          by (told.Refused fault) none = quiet none

    -- ends of maps
    module _ (map : ℕ) (said : Settled (Node K V)) (f : Finishing K V) (here : s.enders i ≡ Some f) (not_there : s.maps map ≡ None) (leads : EndingLeads same (λ map. hash) i said s (held_by mid.executor) (held_by new)) (first : Known)
        (did_so : effects_of (acts.Ending map) noted new.memory.changed ≡ ended_as map first (taken_of (leads f here).2.deed)) where
      abbrev ends : List Effect
      ends = effects_of (acts.Ending map) noted new.memory.changed

      none_ends : taken_of (leads f here).2.deed ≡ [] → IsBack m.stored ends []
      none_ends none = nothing_back m.stored ends [] refl (ap (flat_map pairs_back) (did_so ∙ ap (ended_as map first) none))

      end_brings : IsBack m.stored ends (settled_back said (ys ++ ends))
      end_brings =
          let to = leads f here in
          by said to.3 (tells_next same (λ map. hash) name m noted s (held_by mid.executor) (held_by new) shown.is_at.held shown.shows.all.shown i f here to.0 said to.1 to.2 map not_there said to.3)
        where
          by : (t : Settled (Node K V)) (comes : EndingHasOutcome same (λ map. hash) s (held_by new) i f (leads f here).0 (leads f here).2.w2 (leads f here).2.deed t)
              → ObservesNext same (λ map. hash) s (held_by new) i f (leads f here).0 (leads f here).2.w2 (leads f here).2.deed t comes new.memory.changed → IsBack m.stored ends (settled_back t (ys ++ ends))
          by settled.Goes comes tells = none_ends comes.0
          by settled.Waits comes tells = absurd comes
          by (settled.Gave value) comes tells =
              subst (λ (xs : List Effect). IsBack m.stored xs (pair_back value (ys ++ xs))) (sym (ap (effects_of (acts.Ending map) noted) tells))
              (taken_back s.world m.stored comes.0 value comes.1 (acts.Ending map) ys (noted.roles comes.0) (shown.shows.all.shown.blocks.roles comes.0))
          by settled.Done comes tells = none_ends comes.0

  -- a step more of a row
  pub brings_row : (old mid new : Logged K V S) (xs ys zs : List Effect) (i : ℕ) (said : RowTold (Node K V)) (row : SlotRow) → work_of mid.executor i ≡ Some (OnSlot row) → OnSlotRan xs ys old mid
      → zs ≡ ys ++ effects_of acts.Row (known mid.notes) new.executor.memory.changed
      → ((same : K → K → Bool) (hash : K → ℕ) (s : Scene K V) → IsThere same hash mid.executor s → RowStepsThere same hash i said s mid.executor new.executor)
      → (b0 b1 b2 : List (Pair K V)) → BringsBack xs ys old b0 b1 → b2 ≡ b1 ++ row_back said zs → BringsBack xs zs old b0 b2
  brings_row old mid new xs ys zs i said row here ran did stepping b0 b1 b2 was follows =
      let more = effects_of acts.Row (known mid.notes) new.executor.memory.changed in (
        was.0 ++ more,
        did ∙ ap (λ (l : List Effect). l ++ more) was.1 ∙ append_assoc xs was.0 more,
        λ same hash name m s shown.
            (let u = ran.3 same hash name m s shown in
            let at = record s { world = u.0; maps = u.1 } in
            more_back m.stored was.0 more b0 b1 b2 (was.2 same hash name m s shown) (row_back said (ys ++ more))
            (subst (λ (l : List (K × V)). IsBack l more (row_back said (ys ++ more))) (stored_none None ran.0 m)
            (row_brings same hash name (with_effects None None ran.0 m) at mid u.2 new.executor i ys said row here (stepping same hash at u.2.is_at)))
            (follows ∙ ap (λ (l : List Effect). b1 ++ row_back said l) did)),
      )

  pub end_brings_none : (i map : ℕ) (l : Logged K V S) (xs : List Effect) (b : List (Pair K V)) → EndBringsBack i map xs xs l b b
  end_brings_none i map l xs b = ([], sym (append-nil xs), λ same hash name m s shown f here not_there number first notes still. none_back m.stored b)

  -- a step more of an end
  pub brings_end : (i map : ℕ) (old mid new : Logged K V S) (xs ys zs : List Effect) (said : Settled (Node K V)) → EndRan i map false xs ys old mid → EndSteps i map said ys zs mid new
      → zs ≡ ys ++ effects_of (acts.Ending map) (known mid.notes) new.executor.memory.changed
      → (b0 b1 b2 : List (Pair K V)) → EndBringsBack i map xs ys old b0 b1 → b2 ≡ b1 ++ settled_back said zs → EndBringsBack i map xs zs old b0 b2
  brings_end i map old mid new xs ys zs said ran step did b0 b1 b2 was follows =
      let more = effects_of (acts.Ending map) (known mid.notes) new.executor.memory.changed in (
        was.0 ++ more,
        did ∙ ap (λ (l : List Effect). l ++ more) was.1 ∙ append_assoc xs was.0 more,
        λ same hash name m s shown f here not_there number first notes still.
            (let u = ran.3 same hash name m s shown f here not_there number first notes still in
            let g : Finishing K V = record f { machine = u.2.ender.0; back = f.back ++ u.1; waits = u.2.ender.1 } in
            let away = ap (λ (h : ℕ → Option (Standing K)). h map) u.2.maps ∙ not_there in
            let to = step.2 same hash name (with_effects None (Some map) ran.0 m) u.0 u.5 g u.2.ender.2 away number first notes u.4 in
            more_back m.stored was.0 more b0 b1 b2 (was.2 same hash name m s shown f here not_there number first notes still) (settled_back said (ys ++ more))
            (subst (λ (l : List (K × V)). IsBack l more (settled_back said (ys ++ more))) (stored_none (Some map) ran.0 m)
            (end_brings same hash name (with_effects None (Some map) ran.0 m) u.0 mid u.5 new.executor i ys map said g u.2.ender.2 away to.0 first
            (append_cancel_left ys more step.0 (sym did ∙ step.1) ∙ to.1)))
            (follows ∙ ap (λ (l : List Effect). b1 ++ settled_back said l) did)),
      )
