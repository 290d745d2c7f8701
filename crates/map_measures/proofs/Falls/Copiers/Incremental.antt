-- In incremental mode, each step of a copier that goes on lowers its number, whatever other callers do.
use Rattle.std.specs.Prelude.{◌+◌, ◌/◌, ◌%◌, ◌==◌, nat_lt, if◌then◌else◌, bit_or}
use Rattle.std.proofs.Common.{◌≡◌, ℕ, ◌-◌, ◌^◌, ◌<◌, Bool, true, false, inl, inr, refl, ap, sym, subst, arith}
use Rattle.seize_words.specs.declared.at.At.TheVariants.{Root, Word}
use Rattle.seize_words.specs.declared.fault.Fault.{Fault}
use Rattle.seize_words.specs.OneMemory.Mem.{Mem, Took, value_at, with_word}
use Rattle.seize_words.specs.OneMemory.Plan.{Ends, Now, Seeing, Steps}
use Rattle.seize_words.proofs.OneMemory.OneOwner.Operations.{loaded, stored, added, ored, exchanged}
use Rattle.seize_words.proofs.OneMemory.Plans.{ends_if}
use Rattle.map_tables.specs.Chunks.{is_incremental}
use Rattle.map_tables.specs.Nodes.{table_seen}
use Rattle.map_tables.specs.TablePlaces.{at_word, at_place}
use Rattle.map_tables.specs.declared.marks.TheConstants.{COPYING, COPIED}
use Rattle.map_tables.specs.declared.node.Node.{Node}
use Rattle.map_tables.specs.declared.probe.Probe.{Probe}
use Rattle.map_tables.specs.declared.setting.Setting.{Setting}
use Rattle.map_tables.specs.declared.status.TheConstants.Status.{ABORTED, PROMOTED}
use Rattle.map_tables.specs.declared.table.Table.{Table}
use Rattle.map_tables.specs.declared.table_words.TheConstants.{NEXT, CLAIM, STATUS, COPIED as COUNT}
use Rattle.map_machines.specs.Copier.{plan_at, copier_plan}
use Rattle.map_machines.specs.CopierStates.{standing, behind, none_left, next_place, place_done}
use Rattle.map_machines.specs.CopierClaims.{begins, follows, asks, sees, claims, root_read, next_read, status_read, claim_read, claimed, chunk, range_claimed, to}
use Rattle.map_machines.specs.CopierMarks.{marks, covers, marked as place_marked, mine_marked, is_mine, is_awaited, probing, without_copying, key_hash}
use Rattle.map_machines.specs.CopierPlaces.{probes, puts, place_read, after_put, copied_word, next_try, pair_put}
use Rattle.map_machines.specs.CopierCounts.{counts, tallies, unmarks, unclaims, counted, given_up}
use Rattle.map_machines.specs.CopierPromotes.{promotes, announces, promoted, successor_read, retiring_table, also_retired}
use Rattle.map_machines.specs.declared.yielding.Yielding.{Yielding}
use Rattle.map_machines.specs.declared.yielding.Yielding.TheVariants.{Goes, Waits}
use Rattle.map_machines.specs.declared.copier.Copier.{Copier}
use Rattle.map_machines.specs.declared.copier.Copying.{Copying as Point}
use Rattle.map_machines.specs.declared.copier.Copying.TheVariants as at
use Rattle.many_calls.specs.Given.RuleChart.{Chart}
use Rattle.many_calls.specs.Given.RuleMaps.{IsTable}
use Rattle.many_calls.specs.Given.RuleWords.{Blocks}
use Rattle.many_calls.proofs.Given.RuleKeys.TriesSeen.{spot_inside}
use Rattle.many_calls.proofs.Given.RuleWords.TablesSeen.{place_there, claim_there, status_there}
use Rattle.many_calls.specs.Given.PointsTold.{IsRowOfCopier}
use Rattle.map_measures.specs.Falls.Copies.{number_at, number_of_copier}
use Rattle.map_measures.proofs.Falls.Onward.{Onward}
use Rattle.map_measures.proofs.Falls.Stands.{CopyingStands, AtPlace, AtTry}
use Rattle.map_measures.proofs.Falls.Copiers.CopierOn.{CopierOn, by_end, plain, past_still, past_word, past_place, past_root}
use Rattle.map_measures.proofs.Falls.Copiers.Old.{fewer_old}
use Rattle.map_measures.proofs.Falls.Copiers.Stages.{IsLower, behind_below, none_left_below, next_below, next_try_below}
use Rattle.map_measures.proofs.Falls.Copiers.Further.{on_passes, on_grows}
use Rattle.seize_words.proofs.General.{some_is as is_some_of}

module _ {K V : Type 0} (same : K → K → Bool) (hash : K → ℕ) (setting : Setting) (m : Mem (Node K V)) (c : Chart K) (blocks : Blocks) (m2 : Mem (Node K V)) (c2 : Chart K) (blocks2 : Blocks)
    (on : Onward same hash setting m c blocks m2 c2 blocks2) (p : Copier) where
  -- what is to be shown of a step from there
  abbrev On : Point → Copier × Yielding (Node K V) Table → Type 0
  On stands end = CopierOn c.past c2.past (number_at c blocks p) (number_of_copier c2 blocks2) p stands end

  leads : (stands : Point) (end : Copier × Yielding (Node K V) Table) (q : Copier) → end ≡ (q, Goes) → c2.past ≡ c.past → IsLower c2 blocks2 (number_at c blocks p stands) q → On stands end
  leads stands end q is past lower = plain c.past c2.past (number_at c blocks p) (number_of_copier c2 blocks2) p stands end q is past lower

  ends_as : (stands : Point) (end e : Copier × Yielding (Node K V) Table) → end ≡ e → On stands e → On stands end
  ends_as = by_end c.past c2.past (number_at c blocks p) (number_of_copier c2 blocks2) p

  still : m2 ≡ m → c2.past ≡ c.past
  still = past_still same hash setting m c blocks m2 c2 blocks2 on

  low_place : AtPlace setting m c blocks p → p.place < 2 ^ 48
  low_place here = let inside = here.2 in let most = (on.map.shows.sized here.0 here.1.made).most in omega (arith, inside, most)

  module _ (end : Copier × Yielding (Node K V) Table) where
    on_begins : Steps Took value_at m (begins p) m2 end → On at.Begins end
    on_begins s =
        let l = loaded m (root_read p) (Root p.setting.root) m2 end s in
        leads at.Begins end (record p { source = table_seen l.0 l.3.0; stands = at.Follows }) l.3.2 (still l.2) (refl, inl (omega arith))

    on_follows : Steps Took value_at m (follows p) m2 end → On at.Follows end
    on_follows s =
        let l = loaded m (next_read p) (at_word p.source NEXT) m2 end s in
        elim (ends_if (value_at m) (l.0 == 0) (to (standing p at.Over)) (Seeing (l.0 / 2048) (λ value. to (record p { target = table_seen l.0 value; stands = at.Sees }))) end l.3) as (λ _. On at.Follows end) [
          | inl h ↦ leads at.Follows end (standing p at.Over) h.1 (still l.2) (refl, inl (omega arith))
          | inr h ↦ leads at.Follows end (record p { target = table_seen l.0 h.1.0; stands = at.Sees }) h.1.2 (still l.2) (refl, inl (omega arith))
        ]

    on_asks : p.spent ≡ true → Steps Took value_at m (asks p) m2 end → On at.Asks end
    on_asks spent s = let l = loaded m (status_read p) (at_word p.target STATUS) m2 end s in by (l.0 == PROMOTED) (l.0 == ABORTED) p.spent spent (still l.2) l.3
      where
        by : (a b q : Bool) → q ≡ true → c2.past ≡ c.past
            → Ends (value_at m)
            (if a then to (standing p at.Over) else (if b then to (record p { spent = false; stands = at.Replaces }) else (if q then Now (p, Waits) else to (standing p at.Sees)))) end
            → On at.Asks end
        by true b q all past e = leads at.Asks end (standing p at.Over) e past (refl, inl (omega arith))
        by false true q all past e = leads at.Asks end (record p { spent = false; stands = at.Replaces }) e past (refl, inl (omega arith))
        by false false true all past e = ends_as at.Asks end (p, Waits) e tt
        by false false false all past e = absurd (cc all)

    on_sees : Steps Took value_at m (sees p) m2 end → On at.Sees end
    on_sees s = let l = loaded m (claim_read p) (at_word p.target CLAIM) m2 end s in by (nat_lt l.0 p.source.len) (still l.2) l.3
      where
        by : (b : Bool) → c2.past ≡ c.past → Ends (value_at m) (if b then to (standing p at.Claims) else to (none_left p)) end → On at.Sees end
        by true past e = leads at.Sees end (standing p at.Claims) e past (refl, inl (omega arith))
        by false past e = leads at.Sees end (none_left p) e past (none_left_below c2 blocks2 p 10 _ (omega arith))

    on_claims : Steps Took value_at m (claims p) m2 end → On at.Claims end
    on_claims s =
        let l = added m (claimed p) (at_word p.target CLAIM) (chunk p) m2 end s in
        by (with_word m (at_word p.target CLAIM) ((l.0 + chunk p) % 2 ^ 64)) l.0 (nat_lt l.0 p.source.len)
        (past_word same hash setting m c blocks m2 c2 blocks2 on p.target CLAIM _ l.2 (is_some_of _ l.0 l.1) (λ e. absurd (omega (arith, e)))) l.3
      where
        by : (n : Mem (Node K V)) (claim : ℕ) (b : Bool) → c2.past ≡ c.past → Ends (value_at n) (if b then to (range_claimed p claim) else to (none_left p)) end → On at.Claims end
        by n claim true past e = leads at.Claims end (range_claimed p claim) e past (refl, inl (omega arith))
        by n claim false past e = leads at.Claims end (none_left p) e past (none_left_below c2 blocks2 p 9 _ (omega arith))

    on_marks : AtPlace setting m c blocks p → Steps Took value_at m (marks hash p) m2 end → On at.Marks end
    on_marks at_place_is s =
        let l = ored m (place_marked hash p) (at_place p.source p.place) COPYING m2 end s in
        by (with_word m (at_place p.source p.place) (bit_or l.0 COPYING)) l.0 (is_mine p l.0) (is_awaited p l.0)
        (past_place same hash setting m c blocks m2 c2 blocks2 on p.source p.place _ l.2 (is_some_of _ l.0 l.1) (low_place at_place_is)) l.3
      where
        mine : (n : Mem (Node K V)) (word : ℕ) (b : Bool) → c2.past ≡ c.past
            → Ends (value_at n)
            (if b then to (place_done p) else Seeing (word / 2048) (λ value. to (probing p (without_copying word) (key_hash hash value) p.target))) end
            → On at.Marks end
        mine n word true past e = leads at.Marks end (place_done p) e past (next_below c2 blocks2 (record p { done = (p.done + 1) % 2 ^ 64 }) (p.end - p.place) _ refl)
        mine n word false past e =
            leads at.Marks end (probing p (without_copying word) (key_hash hash e.0) p.target) e.2 past (refl, inr (refl, inr (refl, inl (omega arith))))

        by : (n : Mem (Node K V)) (word : ℕ) (a b : Bool) → c2.past ≡ c.past
            → Ends (value_at n) (if a then mine_marked hash p word else (if b then Now (p, Waits) else to (next_place p))) end → On at.Marks end
        by n word true b past e = mine n word (word / 2048 == 0) past e
        by n word false true past e = ends_as at.Marks end (p, Waits) e tt
        by n word false false past e = leads at.Marks end (next_place p) e past (next_below c2 blocks2 p (p.end - p.place) _ refl)

    on_covers : (word : ℕ) → AtPlace setting m c blocks p → Steps Took value_at m (covers p word) m2 end → On (at.Covers word) end
    on_covers word here s =
        let l = stored m (λ out. to (place_done p)) (at_place p.source p.place) (bit_or (bit_or word COPYING) COPIED) m2 end s in
        leads (at.Covers word) end (place_done p) l.1
        (past_place same hash setting m c blocks m2 c2 blocks2 on p.source p.place _ l.0 (is_some_of _ _ (place_there hash m c blocks setting.root on.map.shows p.source here.0 here.1 p.place here.2)) (low_place here))
        (next_below c2 blocks2 (record p { done = (p.done + 1) % 2 ^ 64 }) (p.end - p.place) _ refl)

    -- at a try
    module _ (mode : is_incremental p.setting.mode ≡ true) (word code : ℕ) (table : Table) (probe : Probe) (try : AtTry setting m c blocks code table probe) where
      low : table.limit < 2 ^ 64
      low =
          let limit_is = ap (λ (x : Table). x.limit) try.2.table.is in
          let most = (on.map.shows.sized try.0 try.2.table.made).most in let least = (on.map.rule.common.lens try.0 try.2.table.made).1 in omega (arith, limit_is, most, least)

      low_try : probe.i < 2 ^ 48
      low_try =
          let is = try.2.place in
          let inside = spot_inside (c.len try.0) code try.1 (on.map.rule.common.lens try.0 try.2.table.made).0 in
          let most = (on.map.shows.sized try.0 try.2.table.made).most in omega (arith, is, inside, most)

      on_probes : Steps Took value_at m (probes p word code table probe) m2 end → On (at.Probes word code table probe) end
      on_probes s =
          let l = loaded m (place_read p word code table probe) (at_place table probe.i) m2 end s in
          elim (ends_if (value_at m) (l.0 == 0) (to (standing p (at.Puts word code table probe))) (to (next_try p word code table probe)) end l.3) as (λ _. On (at.Probes word code table probe) end) [
            | inl h ↦ leads (at.Probes word code table probe) end (standing p (at.Puts word code table probe)) h.1 (still l.2)
                (refl, inr (refl, inr (refl, inr (refl, inr (let past = still l.2 in omega (arith, past), inr (refl, inl (omega arith)))))))
            | inr h ↦ leads (at.Probes word code table probe) end (next_try p word code table probe) h.1 (still l.2)
                (next_try_below c2 blocks2 p word code table probe mode low c.past (still l.2) _)
          ]

      on_puts : Steps Took value_at m (puts p word code table probe) m2 end → On (at.Puts word code table probe) end
      on_puts s =
          elim (exchanged m (after_put p word code table probe) (at_place table probe.i) 0 (copied_word p word) m2 end s) as (λ _. On (at.Puts word code table probe) end) [
            | inl d ↦ leads (at.Puts word code table probe) end (pair_put p word) d.3
                (past_place same hash setting m c blocks m2 c2 blocks2 on table probe.i _ d.2 (is_some_of _ d.0 d.1.0) low_try) put_below
            | inr d ↦ leads (at.Puts word code table probe) end (next_try p word code table probe) d.3 (still d.2)
                (next_try_below c2 blocks2 p word code table probe mode low c.past (still d.2) _)
          ]
        where
          put_below : IsLower c2 blocks2 (number_at c blocks p (at.Puts word code table probe)) (pair_put p word)
          put_below = subst
              (λ (b : Bool). IsLower c2 blocks2 (number_at c blocks p (at.Puts word code table probe)) (if b then standing p (at.Covers word) else place_done p))
              (sym mode) (refl, inr (refl, inr (refl, inl (omega arith))))

    on_counts : Steps Took value_at m (counts p) m2 end → On at.Counts end
    on_counts s =
        let l = added m (counted p) (at_word p.target COUNT) p.done m2 end s in
        by (with_word m (at_word p.target COUNT) ((l.0 + p.done) % 2 ^ 64)) ((l.0 + p.done) % 2 ^ 64 == p.source.len)
        (past_word same hash setting m c blocks m2 c2 blocks2 on p.target COUNT _ l.2 (is_some_of _ l.0 l.1) (λ e. absurd (omega (arith, e)))) l.3
      where
        by : (n : Mem (Node K V)) (b : Bool) → c2.past ≡ c.past
            → Ends (value_at n) (if b then to (record p { place = 0; end = 0; done = 0; stands = at.Promotes }) else to (behind (record p { done = 0 }))) end → On at.Counts end
        by n true past e = leads at.Counts end (record p { place = 0; end = 0; done = 0; stands = at.Promotes }) e past (refl, inl (omega arith))
        by n false past e = leads at.Counts end (behind (record p { done = 0 })) e past (behind_below c2 blocks2 (record p { done = 0 }) 7 _ (omega arith))

    on_tallies : (word : ℕ) (fault : Fault) → Steps Took value_at m (tallies p word fault) m2 end → On (at.Tallies word fault) end
    on_tallies word fault s =
        let l = added m (λ out. to (record p { done = 0; stands = at.Unmarks word fault })) (at_word p.target COUNT) p.done m2 end s in
        leads (at.Tallies word fault) end (record p { done = 0; stands = at.Unmarks word fault }) l.3
        (past_word same hash setting m c blocks m2 c2 blocks2 on p.target COUNT _ l.2 (is_some_of _ l.0 l.1) (λ e. absurd (omega (arith, e)))) (refl, inl (omega arith))

    on_unmarks : (word : ℕ) (fault : Fault) → AtPlace setting m c blocks p → Steps Took value_at m (unmarks p word fault) m2 end → On (at.Unmarks word fault) end
    on_unmarks word fault here s =
        let l = stored m (λ out. to (standing p (at.Unclaims fault))) (at_place p.source p.place) word m2 end s in
        leads (at.Unmarks word fault) end (standing p (at.Unclaims fault)) l.1
        (past_place same hash setting m c blocks m2 c2 blocks2 on p.source p.place _ l.0 (is_some_of _ _ (place_there hash m c blocks setting.root on.map.shows p.source here.0 here.1 p.place here.2)) (low_place here))
        (refl, inl (omega arith))

    module _ (t : ℕ) (target : IsTable c blocks p.target t) where
      on_unclaims : (fault : Fault) → Steps Took value_at m (unclaims p fault) m2 end → On (at.Unclaims fault) end
      on_unclaims fault s =
          let l = stored m (λ out. to (given_up p fault)) (at_word p.target CLAIM) 0 m2 end s in
          leads (at.Unclaims fault) end (given_up p fault) l.1
          (past_word same hash setting m c blocks m2 c2 blocks2 on p.target CLAIM _ l.0 (is_some_of _ _ (claim_there hash m c blocks setting.root on.map.shows p.target t target)) (λ e. absurd (omega (arith, e))))
          (refl, inl (omega arith))

      on_promotes : Steps Took value_at m (promotes p) m2 end → On at.Promotes end
      on_promotes s =
          elim (exchanged m (promoted p) (Root p.setting.root) p.source.link p.target.link m2 end s) as (λ _. On at.Promotes end) [
            | inl d ↦ leads at.Promotes end (standing p at.Announces) d.3
                (past_root same hash setting m c blocks m2 c2 blocks2 on p.setting.root p.target.link d.2 (is_some_of _ d.0 d.1.0) (let made = target.made in omega (arith, made))) (refl, inl (omega arith))
            | inr d ↦ leads at.Promotes end (behind p) d.3 (still d.2) (behind_below c2 blocks2 p 6 _ (omega arith))
          ]

      on_announces : Steps Took value_at m (announces p) m2 end → On at.Announces end
      on_announces s =
          let l = stored m (λ out. to (standing p (at.Succeeds p.source.link))) (at_word p.target STATUS) PROMOTED m2 end s in
          leads at.Announces end (standing p (at.Succeeds p.source.link)) l.1
          (past_word same hash setting m c blocks m2 c2 blocks2 on p.target STATUS _ l.0 (is_some_of _ _ (status_there hash m c blocks setting.root on.map.shows p.target t target)) (λ e. absurd (omega (arith, e))))
          (refl, inl (omega arith))

    on_at : is_incremental p.setting.mode ≡ true → (stands : Point) → CopyingStands setting m c blocks p stands → (IsRowOfCopier stands → ⊥)
        → Steps Took value_at m (plan_at hash p stands) m2 end → On stands end
    on_at mode at.Begins f none s = on_begins s
    on_at mode at.Follows f none s = on_follows s
    on_at mode at.Asks f none s = on_asks f s
    on_at mode at.Sees f none s = on_sees s
    on_at mode at.Claims f none s = on_claims s
    on_at mode at.Marks f none s = on_marks f s
    on_at mode (at.Probes word code table probe) f none s = on_probes mode word code table probe f s
    on_at mode (at.Puts word code table probe) f none s = on_puts mode word code table probe f s
    on_at mode (at.Covers word) f none s = on_covers word f s
    on_at mode (at.Passes word code table) f none s = on_passes same hash setting m c blocks m2 c2 blocks2 on p end word code table f.0 f.1 s
    on_at mode (at.Grows word code making) f none s = on_grows same hash setting m c blocks m2 c2 blocks2 on p end word code making f.0 f.3 s
    on_at mode at.Aborts f none s = absurd f
    on_at mode at.Replaces f none s = absurd f
    on_at mode (at.Remakes making) f none s = absurd f
    on_at mode at.Counts f none s = on_counts s
    on_at mode (at.Tallies word fault) f none s = on_tallies word fault s
    on_at mode (at.Unmarks word fault) f none s = on_unmarks word fault f s
    on_at mode (at.Unclaims fault) f none s = on_unclaims f.0 f.1 fault s
    on_at mode at.Promotes f none s = on_promotes f.0 f.1 s
    on_at mode at.Announces f none s = on_announces f.0 f.1 s
    on_at mode (at.Succeeds link) f none s =
        let l = loaded m (successor_read p link) (Word (link / 2048) NEXT) m2 end s in
        leads (at.Succeeds link) end (retiring_table p link (also_retired p l.0)) l.3 (still l.2)
        (refl, inr (refl, inl (fewer_old same hash setting m c blocks m2 c2 blocks2 on p link f l.0 l.1)))
    on_at mode (at.Retires settle rest) f none s = absurd (none tt)
    on_at mode at.Over f none s = ends_as at.Over end _ s.1 (still s.0, refl)
    on_at mode (at.Refused fault) f none s = ends_as (at.Refused fault) end _ s.1 tt

  pub copied_on : is_incremental p.setting.mode ≡ true → CopyingStands setting m c blocks p p.stands → (IsRowOfCopier p.stands → ⊥)
      → (end : Copier × Yielding (Node K V) Table) → Steps Took value_at m (copier_plan hash p) m2 end
      → CopierOn c.past c2.past (number_at c blocks p) (number_of_copier c2 blocks2) p p.stands end
  copied_on mode stands none end s = on_at end mode p.stands stands none s
