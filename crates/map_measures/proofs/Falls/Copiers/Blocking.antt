-- In blocking mode, each step of a copier that goes on lowers its number, whatever other callers do.
use Rattle.std.specs.Prelude.{◌+◌, ◌/◌, ◌%◌, ◌==◌, nat_lt, if◌then◌else◌, bit_or}
use Rattle.std.proofs.Common.{◌≡◌, ℕ, suc, ◌-◌, ◌^◌, ◌<◌, Bool, true, false, cond, inl, inr, refl, ap, sym, subst, arith}
use Rattle.seize_words.specs.declared.at.At.TheVariants.{Root, Word}
use Rattle.seize_words.specs.OneMemory.Mem.{Mem, Took, value_at, with_word}
use Rattle.seize_words.specs.OneMemory.Plan.{Ends, Now, Seeing, Steps}
use Rattle.seize_words.proofs.OneMemory.OneOwner.Operations.{loaded, stored, added, ored, exchanged}
use Rattle.seize_words.proofs.OneMemory.Plans.{ends_if}
use Rattle.map_tables.specs.Chunks.{is_incremental}
use Rattle.map_tables.specs.TablePlaces.{at_word, at_place}
use Rattle.map_tables.specs.declared.marks.TheConstants.{COPYING}
use Rattle.map_tables.specs.declared.node.Node.{Node}
use Rattle.map_tables.specs.declared.probe.Probe.{Probe}
use Rattle.map_tables.specs.declared.setting.Setting.{Setting}
use Rattle.map_tables.specs.declared.status.TheConstants.Status.{ABORTED, PROMOTED}
use Rattle.map_tables.specs.declared.table.Table.{Table}
use Rattle.map_tables.specs.declared.table_words.TheConstants.{NEXT, CLAIM, STATUS, COPIED as COUNT}
use Rattle.map_machines.specs.Copier.{plan_at, copier_plan}
use Rattle.map_machines.specs.CopierStates.{standing, behind, none_left, next_place, place_done}
use Rattle.map_machines.specs.CopierClaims.{asks, sees, status_read, claim_read, to}
use Rattle.map_machines.specs.CopierMarks.{marks, marked as place_marked, mine_marked, is_mine, is_awaited, probing, without_copying, key_hash}
use Rattle.map_machines.specs.CopierPlaces.{probes, puts, place_read, after_put, copied_word, next_try, pair_put}
use Rattle.map_machines.specs.CopierFurther.{aborts}
use Rattle.map_machines.specs.CopierCounts.{counts, counted}
use Rattle.map_machines.specs.CopierPromotes.{promotes, announces, promoted, successor_read, retiring_table, also_retired}
use Rattle.map_machines.specs.declared.yielding.Yielding.{Yielding}
use Rattle.map_machines.specs.declared.yielding.Yielding.TheVariants.{Goes, Waits}
use Rattle.map_machines.specs.declared.copier.Copier.{Copier}
use Rattle.map_machines.specs.declared.copier.Copying.{Copying as Point}
use Rattle.map_machines.specs.declared.copier.Copying.TheVariants as at
use Rattle.many_calls.specs.Given.RuleChart.{Chart}
use Rattle.many_calls.specs.Given.RuleMaps.{IsTable}
use Rattle.many_calls.specs.Given.RuleWords.{Blocks}
use Rattle.many_calls.proofs.Given.RuleKeys.TriesSeen.{spot_inside}
use Rattle.many_calls.proofs.Given.RuleWords.TablesSeen.{status_there}
use Rattle.many_calls.specs.Given.PointsTold.{IsRowOfCopier}
use Rattle.map_measures.specs.Falls.CopiesBlocking.{number_at, number_of_copier_blocking, targets}
use Rattle.map_measures.proofs.Falls.Onward.{Onward}
use Rattle.map_measures.proofs.Falls.Stands.{CopyingStandsBlocking, AtPlace, AtTry}
use Rattle.map_measures.proofs.Falls.Copiers.Claims.{Same, same_still, same_word, same_place, same_root}
use Rattle.map_measures.proofs.Falls.Copiers.CopierOn.{CopierOn, by_end, plain, past_still, past_word}
use Rattle.map_measures.proofs.Falls.Copiers.Old.{fewer_old}
use Rattle.map_measures.proofs.Falls.Copiers.StagesBlocking.{IsLower, behind_below, none_left_below, next_below, next_try_below}
use Rattle.map_measures.proofs.Falls.Copiers.Chunks.{on_claims}
use Rattle.map_measures.proofs.Falls.Copiers.Remakes.{on_replaces, on_remakes}
use Rattle.seize_words.proofs.General.{some_is as is_some_of}

module _ {K V : Type 0} (same : K → K → Bool) (hash : K → ℕ) (setting : Setting) (m : Mem (Node K V)) (c : Chart K) (blocks : Blocks) (m2 : Mem (Node K V)) (c2 : Chart K) (blocks2 : Blocks)
    (on : Onward same hash setting m c blocks m2 c2 blocks2) (p : Copier) where
  -- what is to be shown of a step from there
  abbrev On : Point → Copier × Yielding (Node K V) Table → Type 0
  On stands end = CopierOn c.past c2.past (number_at c blocks p) (number_of_copier_blocking c2 blocks2) p stands end

  leads : (stands : Point) (end : Copier × Yielding (Node K V) Table) (q : Copier) → end ≡ (q, Goes) → c2.past ≡ c.past → IsLower c2 blocks2 (number_at c blocks p stands) q → On stands end
  leads stands end q is past lower = plain c.past c2.past (number_at c blocks p) (number_of_copier_blocking c2 blocks2) p stands end q is past lower

  ends_as : (stands : Point) (end e : Copier × Yielding (Node K V) Table) → end ≡ e → On stands e → On stands end
  ends_as = by_end c.past c2.past (number_at c blocks p) (number_of_copier_blocking c2 blocks2) p

  abbrev tables : ℕ
  tables = targets c blocks p

  abbrev left : ℕ
  left = p.source.len - c.claim p.target.turn

  same_tables : c2.past ≡ c.past → targets c2 blocks2 p ≡ tables
  same_tables past = ap (λ x. x - p.target.turn) past

  module _ (end : Copier × Yielding (Node K V) Table) (t : ℕ) (target : IsTable c blocks p.target t) where
    abbrev IsSame : Type 0
    IsSame = Same same hash setting m c blocks m2 c2 blocks2 on p.target t target

    still : m2 ≡ m → IsSame
    still = same_still same hash setting m c blocks m2 c2 blocks2 on p.target t target

    same_left : IsSame → p.source.len - c2.claim p.target.turn ≡ left
    same_left same_claim = ap (λ x. p.source.len - x) same_claim.1

    on_asks : Steps Took value_at m (asks p) m2 end → On at.Asks end
    on_asks s = let l = loaded m (status_read p) (at_word p.target STATUS) m2 end s in by (l.0 == PROMOTED) (l.0 == ABORTED) p.spent refl (still l.2) l.3
      where
        by : (a b q : Bool) → p.spent ≡ q → IsSame
            → Ends (value_at m)
            (if a then to (standing p at.Over) else (if b then to (record p { spent = false; stands = at.Replaces }) else (if q then Now (p, Waits) else to (standing p at.Sees)))) end
            → On at.Asks end
        by true b q all k e = leads at.Asks end (standing p at.Over) e k.0 (refl, inr (same_tables k.0, inl (omega arith)))
        by false true q all k e = leads at.Asks end (record p { spent = false; stands = at.Replaces }) e k.0 (refl, inr (same_tables k.0, inl (omega arith)))
        by false false true all k e = ends_as at.Asks end (p, Waits) e tt
        by false false false all k e = leads at.Asks end (standing p at.Sees) e k.0
            (refl, inr (same_tables k.0, inr (refl, inr (ap (λ b. cond b 0 1) (sym all), inr (same_left k, inr (refl, inr (refl, inl (omega arith))))))))

    on_sees : Steps Took value_at m (sees p) m2 end → On at.Sees end
    on_sees s = let l = loaded m (claim_read p) (at_word p.target CLAIM) m2 end s in by (nat_lt l.0 p.source.len) (still l.2) l.3
      where
        by : (b : Bool) → IsSame → Ends (value_at m) (if b then to (standing p at.Claims) else to (none_left p)) end → On at.Sees end
        by true k e = leads at.Sees end (standing p at.Claims) e k.0 (refl, inr (same_tables k.0, inr (refl, inr (refl, inr (same_left k, inr (refl, inr (refl, inl (omega arith))))))))
        by false k e = leads at.Sees end (none_left p) e k.0 (none_left_below c2 blocks2 p tables left (same_tables k.0) (same_left k) _)

    on_marks : AtPlace setting m c blocks p → Steps Took value_at m (marks hash p) m2 end → On at.Marks end
    on_marks here s =
        let l = ored m (place_marked hash p) (at_place p.source p.place) COPYING m2 end s in
        by (with_word m (at_place p.source p.place) (bit_or l.0 COPYING)) l.0 (is_mine p l.0) (is_awaited p l.0)
        (same_place same hash setting m c blocks m2 c2 blocks2 on p.target t target p.source p.place _ l.2 (is_some_of _ l.0 l.1)
        (let inside = here.2 in let most = (on.map.shows.sized here.0 here.1.made).most in omega (arith, inside, most))) l.3
      where
        mine : (n : Mem (Node K V)) (word : ℕ) (b : Bool) → IsSame
            → Ends (value_at n)
            (if b then to (place_done p) else Seeing (word / 2048) (λ value. to (probing p (without_copying word) (key_hash hash value) p.target))) end
            → On at.Marks end
        mine n word true k e =
            leads at.Marks end (place_done p) e k.0 (next_below c2 blocks2 (record p { done = (p.done + 1) % 2 ^ 64 }) tables left (same_tables k.0) (same_left k) (suc p.target.limit) 0 _)
        mine n word false k e =
            leads at.Marks end (probing p (without_copying word) (key_hash hash e.0) p.target) e.2 k.0
            (refl, inr (same_tables k.0, inr (refl, inr (refl, inr (same_left k, inr (refl, inl (omega arith)))))))

        by : (n : Mem (Node K V)) (word : ℕ) (a b : Bool) → IsSame
            → Ends (value_at n) (if a then mine_marked hash p word else (if b then Now (p, Waits) else to (next_place p))) end → On at.Marks end
        by n word true b k e = mine n word (word / 2048 == 0) k e
        by n word false true k e = ends_as at.Marks end (p, Waits) e tt
        by n word false false k e = leads at.Marks end (next_place p) e k.0 (next_below c2 blocks2 p tables left (same_tables k.0) (same_left k) (suc p.target.limit) 0 _)

    -- at a try
    module _ (mode : is_incremental p.setting.mode ≡ false) (word code : ℕ) (table : Table) (probe : Probe) (try : AtTry setting m c blocks code table probe) where
      low_limit : table.limit < 2 ^ 64
      low_limit =
          let limit_is = ap (λ (x : Table). x.limit) try.2.table.is in
          let most = (on.map.shows.sized try.0 try.2.table.made).most in let least = (on.map.rule.common.lens try.0 try.2.table.made).1 in omega (arith, limit_is, most, least)

      low_try : probe.i < 2 ^ 48
      low_try =
          let is = try.2.place in
          let inside = spot_inside (c.len try.0) code try.1 (on.map.rule.common.lens try.0 try.2.table.made).0 in
          let most = (on.map.shows.sized try.0 try.2.table.made).most in omega (arith, is, inside, most)

      on_probes : Steps Took value_at m (probes p word code table probe) m2 end → On (at.Probes word code table probe) end
      on_probes s =
          let l = loaded m (place_read p word code table probe) (at_place table probe.i) m2 end s in
          let k = still l.2 in
          elim (ends_if (value_at m) (l.0 == 0) (to (standing p (at.Puts word code table probe))) (to (next_try p word code table probe)) end l.3) as (λ _. On (at.Probes word code table probe) end) [
            | inl h ↦ leads (at.Probes word code table probe) end (standing p (at.Puts word code table probe)) h.1 k.0
                (refl, inr (same_tables k.0, inr (refl, inr (refl, inr (same_left k, inr (refl, inr (refl, inl (omega arith))))))))
            | inr h ↦ leads (at.Probes word code table probe) end (next_try p word code table probe) h.1 k.0
                (next_try_below c2 blocks2 p tables left (same_tables k.0) (same_left k) word code table probe mode low_limit _)
          ]

      on_puts : Steps Took value_at m (puts p word code table probe) m2 end → On (at.Puts word code table probe) end
      on_puts s =
          elim (exchanged m (after_put p word code table probe) (at_place table probe.i) 0 (copied_word p word) m2 end s) as (λ _. On (at.Puts word code table probe) end) [
            | inl d ↦ (let k = same_place same hash setting m c blocks m2 c2 blocks2 on p.target t target table probe.i _ d.2 (is_some_of _ d.0 d.1.0) low_try in
                leads (at.Puts word code table probe) end (pair_put p word) d.3 k.0 (put_below k))
            | inr d ↦ (let k = still d.2 in
                leads (at.Puts word code table probe) end (next_try p word code table probe) d.3 k.0
                (next_try_below c2 blocks2 p tables left (same_tables k.0) (same_left k) word code table probe mode low_limit _))
          ]
        where
          put_below : IsSame → IsLower c2 blocks2 (number_at c blocks p (at.Puts word code table probe)) (pair_put p word)
          put_below k = subst
              (λ (b : Bool). IsLower c2 blocks2 (number_at c blocks p (at.Puts word code table probe)) (if b then standing p (at.Covers word) else place_done p))
              (sym mode) (next_below c2 blocks2 (record p { done = (p.done + 1) % 2 ^ 64 }) tables left (same_tables k.0) (same_left k) (table.limit - probe.len) 0 _)

    on_counts : Steps Took value_at m (counts p) m2 end → On at.Counts end
    on_counts s =
        let l = added m (counted p) (at_word p.target COUNT) p.done m2 end s in
        by (with_word m (at_word p.target COUNT) ((l.0 + p.done) % 2 ^ 64)) ((l.0 + p.done) % 2 ^ 64 == p.source.len)
        (same_word same hash setting m c blocks m2 c2 blocks2 on p.target t target p.target COUNT _ l.2 (is_some_of _ l.0 l.1) (λ e. absurd (omega (arith, e))) (λ e. absurd (omega (arith, e)))) l.3
      where
        by : (n : Mem (Node K V)) (b : Bool) → IsSame
            → Ends (value_at n) (if b then to (record p { place = 0; end = 0; done = 0; stands = at.Promotes }) else to (behind (record p { done = 0 }))) end → On at.Counts end
        by n true k e = leads at.Counts end (record p { place = 0; end = 0; done = 0; stands = at.Promotes }) e k.0
            (refl, inr (same_tables k.0, inr (refl, inr (refl, inr (same_left k, inl (omega arith))))))
        by n false k e = leads at.Counts end (behind (record p { done = 0 })) e k.0
            (behind_below c2 blocks2 (record p { done = 0 }) tables left (same_tables k.0) (same_left k) 1 0 0 _ (inl (omega arith)))

    on_promotes : Steps Took value_at m (promotes p) m2 end → On at.Promotes end
    on_promotes s =
        elim (exchanged m (promoted p) (Root p.setting.root) p.source.link p.target.link m2 end s) as (λ _. On at.Promotes end) [
          | inl d ↦ (let k = same_root same hash setting m c blocks m2 c2 blocks2 on p.target t target p.setting.root p.target.link d.2 (is_some_of _ d.0 d.1.0) in
              leads at.Promotes end (standing p at.Announces) d.3 k.0 (refl, inr (same_tables k.0, inl (omega arith))))
          | inr d ↦ (let k = still d.2 in
              leads at.Promotes end (behind p) d.3 k.0 (behind_below c2 blocks2 p tables left (same_tables k.0) (same_left k) 0 0 4 _ (inr (refl, refl, omega arith))))
        ]

    on_aborts : Steps Took value_at m (aborts p) m2 end → On at.Aborts end
    on_aborts s =
        let l = stored m (λ out. to (standing p at.Replaces)) (at_word p.target STATUS) ABORTED m2 end s in
        let past = past_word same hash setting m c blocks m2 c2 blocks2 on p.target STATUS _ l.0 (is_some_of _ _ (status_there hash m c blocks setting.root on.map.shows p.target t target)) (λ e. absurd (omega (arith, e))) in
        leads at.Aborts end (standing p at.Replaces) l.1 past (refl, inr (same_tables past, inl (omega arith)))

    on_announces : Steps Took value_at m (announces p) m2 end → On at.Announces end
    on_announces s =
        let l = stored m (λ out. to (standing p (at.Succeeds p.source.link))) (at_word p.target STATUS) PROMOTED m2 end s in
        let past = past_word same hash setting m c blocks m2 c2 blocks2 on p.target STATUS _ l.0 (is_some_of _ _ (status_there hash m c blocks setting.root on.map.shows p.target t target)) (λ e. absurd (omega (arith, e))) in
        leads at.Announces end (standing p (at.Succeeds p.source.link)) l.1 past (refl, inr (same_tables past, inl (omega arith)))

  on_at : is_incremental p.setting.mode ≡ false → (end : Copier × Yielding (Node K V) Table) (stands : Point) → CopyingStandsBlocking setting m c blocks p stands → (IsRowOfCopier stands → ⊥)
      → Steps Took value_at m (plan_at hash p stands) m2 end → On stands end
  on_at mode end at.Begins f none s = absurd f
  on_at mode end at.Follows f none s = absurd f
  on_at mode end at.Asks f none s = on_asks end f.0 f.1 s
  on_at mode end at.Sees f none s = on_sees end f.0 f.1 s
  on_at mode end at.Claims f none s = on_claims same hash setting m c blocks m2 c2 blocks2 on p end f.0.0 f.0.1 mode f.1 f.2 s
  on_at mode end at.Marks f none s = on_marks end f.0.0 f.0.1 f.1 s
  on_at mode end (at.Probes word code table probe) f none s = on_probes end f.0.0 f.0.1 mode word code table probe f.1 s
  on_at mode end (at.Puts word code table probe) f none s = on_puts end f.0.0 f.0.1 mode word code table probe f.1 s
  on_at mode end (at.Covers word) f none s = absurd f
  on_at mode end (at.Passes word code table) f none s = absurd f
  on_at mode end (at.Grows word code making) f none s = absurd f
  on_at mode end at.Aborts f none s = on_aborts end f.0 f.1 s
  on_at mode end at.Replaces f none s = on_replaces same hash setting m c blocks m2 c2 blocks2 on p end f.0 f.1 s
  on_at mode end (at.Remakes making) f none s = on_remakes same hash setting m c blocks m2 c2 blocks2 on p end f.0 f.1 making f.2 s
  on_at mode end at.Counts f none s = on_counts end f.0 f.1 s
  on_at mode end (at.Tallies word fault) f none s = absurd f
  on_at mode end (at.Unmarks word fault) f none s = absurd f
  on_at mode end (at.Unclaims fault) f none s = absurd f
  on_at mode end at.Promotes f none s = on_promotes end f.0 f.1 s
  on_at mode end at.Announces f none s = on_announces end f.0 f.1 s
  on_at mode end (at.Succeeds link) f none s =
      let l = loaded m (successor_read p link) (Word (link / 2048) NEXT) m2 end s in
      let past = past_still same hash setting m c blocks m2 c2 blocks2 on l.2 in
      leads (at.Succeeds link) end (retiring_table p link (also_retired p l.0)) l.3 past
      (refl, inr (same_tables past, inr (refl, inl (fewer_old same hash setting m c blocks m2 c2 blocks2 on p link f l.0 l.1))))
  on_at mode end (at.Retires settle rest) f none s = absurd (none tt)
  on_at mode end at.Over f none s = ends_as at.Over end _ s.1 (past_still same hash setting m c blocks m2 c2 blocks2 on s.0, refl)
  on_at mode end (at.Refused fault) f none s = ends_as (at.Refused fault) end _ s.1 tt

  pub copied_on_blocking : is_incremental p.setting.mode ≡ false → CopyingStandsBlocking setting m c blocks p p.stands → (IsRowOfCopier p.stands → ⊥)
      → (end : Copier × Yielding (Node K V) Table) → Steps Took value_at m (copier_plan hash p) m2 end
      → CopierOn c.past c2.past (number_at c blocks p) (number_of_copier_blocking c2 blocks2) p p.stands end
  copied_on_blocking mode stands none end s = on_at mode end p.stands stands none s
