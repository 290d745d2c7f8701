-- All that is kept is so as long as nothing of it has changed: the same world, the same calls, what the moment says of calls, tables and pairs.
use Rattle.std.specs.Prelude.{◌≡◌, ℕ, List, Option, Some, find}
use Rattle.std.proofs.Common.{refl, ap, sym, subst, ◌∙◌, inl}
use Rattle.seize.specs.World.{World, with_at}
use Rattle.papaya_raw.specs.Given.TablesDeclared.node.Node.{Node}
use Rattle.run_schedules.specs.Runs.Same.{is_same}
use Rattle.run_schedules.specs.Schedules.Moment.{UnderWay as CallThere, Moment}
use Rattle.run_schedules.specs.Schedules.Views.{call_of}
use Rattle.run_executor.specs.Given.CallersTogether.{UnderWay}
use Rattle.run_executor.specs.Given.EffectsKnown.{Known}
use Rattle.run_executor.specs.Given.FinishesMachines.{machine_of}
use Rattle.run_executor.specs.Given.FollowsCalling.{come_to}
use Rattle.run_blocks.proofs.Owes.Aside.{stays_made}
use Rattle.run_blocks.proofs.Owes.Between.{made_begins, calls_come_to_made}
use Rattle.run_blocks.proofs.Owes.Looking.Between.{looking_begins, stays_looking, calls_come_to_looking}
use Rattle.run_blocks.proofs.Owes.Short.Between.{short_begins, stays_short, calls_come_to_short}
use Rattle.run_blocks.proofs.Owes.Grown.Between.{grown_begins, stays_grown, calls_come_to_grown}
use Rattle.run_blocks.proofs.Owes.Tables.Aside.{tables_begin, stays_tables, makings_begin_tables}
use Rattle.run_blocks.proofs.Owes.Tables.Between.{calls_come_to_tables}
use Rattle.run_blocks.specs.Given.SettlesEntries.{IsSomebodys, IsBlank, RetiresOne, EntriesAreBlank}
use Rattle.run_blocks.specs.Given.SettlesHand.{SamePending, RefinesObligations}
use Rattle.run_blocks.specs.Given.SettlesHanding.{RowsAreHandingOver}
use Rattle.run_blocks.proofs.Given.SettlesBetween.{counts_begin, stays_counts, calls_come_to_counts}
use Rattle.run_blocks.proofs.Given.SettlesEntryScenes.{entries_begin}
use Rattle.run_blocks.proofs.Given.SettlesHand.Between.{owed_begins, stays_owed, calls_come_to_owed}
use Rattle.run_blocks.proofs.Given.SettlesHand.Roles.{hand_kept}
use Rattle.run_blocks.proofs.Given.SettlesHanding.{handing_begins, calls_come_to_handing}
use Rattle.run_waiting.specs.Lives.Behind.{RefinesWaiting, WaitsOnce}
use Rattle.run_waiting.specs.Lives.Lying.{RefinesLying}
use Rattle.run_waiting.specs.Lives.Order.{RefinesOrder}
use Rattle.run_waiting.proofs.Lives.HandedRows.{handed_begins, others_leave_handed}
use Rattle.run_waiting.proofs.Lives.LeftTables.{left_begins, others_keep_left}
use Rattle.run_waiting.proofs.Lives.Lying.{lying_begins, others_leave_lying}
use Rattle.run_waiting.proofs.Lives.Order.{order_begins, others_leave_order}
use Rattle.run_waiting.proofs.Lives.Reclaimed.{retired_begins, others_leave_retired}
use Rattle.run_waiting.proofs.Lives.Waiting.{waiting_begins, others_leave_waiting}
use Rattle.run_kept.proofs.Kept.Ends.{ends_begin, ends_stay}
use Rattle.run_kept.specs.Kept.Steps.{BeginsKept, StaysKept, RenamedKept, CallsComeToKept, MakingsBeginKept}
use Rattle.run_executor.specs.Given.ScenesScene.{HasCall, Scene}

pub begins_kept : (K V : Type 0) → BeginsKept K V
begins_kept K V roots name = record {
  entries = entries_begin K V roots;
  made = made_begins K V roots name;
  tables = tables_begin K V roots name;
  looking = looking_begins K V roots name;
  short = short_begins K V roots name;
  grown = grown_begins K V roots name;
  counts = counts_begin K V roots name;
  owed = owed_begins K V roots name;
  handing = handing_begins K V roots name;
  waiting = waiting_begins K V roots;
  once = tt;
  lying = lying_begins K V roots;
  order = order_begins K V roots;
  retired = retired_begins K V roots;
  left = left_begins K V roots;
  handed = handed_begins K V roots;
  ends = ends_begin K V roots;
}

module _ {K V : Type 0} where
  -- entries, by the world and its calls
  pub entries_stay : (s t : Scene K V) → EntriesAreBlank s → t.world ≡ s.world → t.calls ≡ s.calls → EntriesAreBlank t
  entries_stay s t entries world calls = record {
    blank = λ b its. subst (λ (x : World (Node K V)). IsBlank x.memory b) (sym world) (entries.blank b (subst (λ (x : World (Node K V)). IsSomebodys (x.hand b)) world its));
    one = λ map i u is.
        subst (λ (x : World (Node K V)). RetiresOne (IsBlank x.memory) (x.row i)) (sym world) (entries.one map i u (ap (λ (f : ℕ → ℕ → Option (UnderWay K V K)). f map i) (sym calls) ∙ is));
  }

  -- who has a call has it still
  pub calls_same : (s t : Scene K V) → t.calls ≡ s.calls → (j : ℕ) → HasCall s j → HasCall t j
  calls_same s t calls j has = (has.0, has.1, ap (λ (f : ℕ → ℕ → Option (UnderWay K V K)). f has.0 j) calls ∙ has.2)

  -- what calls have in hand is what it was with the same notes
  pub same_in_hand : (name : ℕ → List ℕ) (m : Moment K V) (known : Known) (s : Scene K V) → RefinesObligations name m known s
      → (map i : ℕ) (u : UnderWay K V K) → s.calls map i ≡ Some u → SamePending known known (machine_of u)
  same_in_hand name m known s owed map i u is = hand_kept known known (λ b lasts. refl) (machine_of u) (owed.noted map i u is)

  handing_stays : (name : ℕ → List ℕ) (m v : Moment K V) (s t : Scene K V) → RowsAreHandingOver name m s → v.calls ≡ m.calls → t.world ≡ s.world → t.calls ≡ s.calls → RowsAreHandingOver name v t
  handing_stays name m v s t handing listed world calls map i u is busy c c_is =
      handing map i u (ap (λ (f : ℕ → ℕ → Option (UnderWay K V K)). f map i) (sym calls) ∙ is) (λ rests. busy (ap (λ (x : World (Node K V)). x.row i) world ∙ rests)) c
      (ap (λ (l : List (CallThere K V)). find (λ y. is_same y.caller (name i)) l) (sym listed) ∙ c_is)

pub stays_kept : (K V : Type 0) → StaysKept K V
stays_kept K V name m v known s t kept listed tables deferred place world calls makers enders maps = record {
  entries = entries_stay s t kept.entries world calls;
  made = stays_made K V name m v known s t kept.made listed calls;
  tables = stays_tables K V name m v known s t kept.tables listed calls makers;
  looking = stays_looking K V name m v s t kept.looking listed calls;
  short = stays_short K V name m v s t kept.short listed calls;
  grown = stays_grown K V name m v s t kept.grown listed calls;
  counts = stays_counts K V name m v s t kept.counts listed calls;
  owed = stays_owed K V name m v known known s t kept.owed listed calls (same_in_hand name m known s kept.owed);
  handing = handing_stays name m v s t kept.handing listed world calls;
  waiting = subst (RefinesWaiting v known) (sym world) (others_leave_waiting K V m v known s.world kept.waiting deferred place);
  once = subst WaitsOnce (sym deferred) kept.once;
  lying = subst (RefinesLying v known) (sym world) (others_leave_lying K V m v known s.world kept.lying deferred);
  order = subst (RefinesOrder v known) (sym world) (others_leave_order K V m v known s.world kept.order deferred);
  retired = others_leave_retired K V m v known s t kept.retired tables world (λ j has. inl (calls_same s t calls j has));
  left = others_keep_left K V known s t kept.left world enders;
  handed = others_leave_handed K V m v known s t kept.handed place deferred tables world (λ j has. inl (calls_same s t calls j has));
  ends = ends_stay s kept.ends t maps calls;
}

pub renamed_kept : (K V : Type 0) → RenamedKept K V
renamed_kept K V name name2 m known s agree kept = record {
  entries = kept.entries;
  made = record { has = λ map i u is c c_is. kept.made.has map i u is c (as_named map i u is c c_is); named = kept.made.named; whose = kept.made.whose };
  tables = record { tables = λ map i u is c c_is. kept.tables.tables map i u is c (as_named map i u is c c_is); whose = kept.tables.whose };
  looking = λ map i u is c c_is. kept.looking map i u is c (as_named map i u is c c_is);
  short = λ map i u is c c_is. kept.short map i u is c (as_named map i u is c c_is);
  grown = λ map i u is c c_is. kept.grown map i u is c (as_named map i u is c c_is);
  counts = record { counts = λ map i u is c c_is. kept.counts.counts map i u is c (as_named map i u is c c_is) };
  owed = record { owed = λ map i u is c c_is. kept.owed.owed map i u is c (as_named map i u is c c_is); noted = kept.owed.noted };
  handing = λ map i u is busy c c_is. kept.handing map i u is busy c (as_named map i u is c c_is);
  waiting = kept.waiting;
  once = kept.once;
  lying = kept.lying;
  order = kept.order;
  retired = kept.retired;
  left = kept.left;
  handed = kept.handed;
  ends = kept.ends;
}
  where
    as_named : (map i : ℕ) (u : UnderWay K V K) → s.calls map i ≡ Some u → (c : CallThere K V) → call_of (name2 i) m ≡ Some c → call_of (name i) m ≡ Some c
    as_named map i u is c c_is = ap (λ (own : List ℕ). call_of own m) (sym (agree i (map, u, is))) ∙ c_is

pub calls_come_to_kept : (K V : Type 0) → CallsComeToKept K V
calls_come_to_kept K V same name m known s whole kept own outcome steps none = record {
  entries = kept.entries;
  made = calls_come_to_made K V same name m known s whole kept.made own outcome steps none;
  tables = calls_come_to_tables K V same name m known s whole kept.tables own outcome steps none;
  looking = calls_come_to_looking K V same name m known s whole kept.looking own outcome steps none;
  short = calls_come_to_short K V same name m known s whole kept.short own outcome steps none;
  grown = calls_come_to_grown K V same name m known s whole kept.grown own outcome steps none;
  counts = calls_come_to_counts K V same name m known s whole kept.counts own outcome steps none;
  owed = calls_come_to_owed K V same name m known s whole kept.owed own outcome steps none;
  handing = calls_come_to_handing K V same name m s whole.all.shown.calls kept.handing own outcome steps none;
  waiting = others_leave_waiting K V m (come_to own outcome steps m) known s.world kept.waiting refl refl;
  once = kept.once;
  lying = others_leave_lying K V m (come_to own outcome steps m) known s.world kept.lying refl;
  order = others_leave_order K V m (come_to own outcome steps m) known s.world kept.order refl;
  retired = others_leave_retired K V m (come_to own outcome steps m) known s s kept.retired refl refl (λ j has. inl has);
  left = kept.left;
  handed = others_leave_handed K V m (come_to own outcome steps m) known s s kept.handed refl refl refl refl (λ j has. inl has);
  ends = kept.ends;
}

pub makings_begin_kept : (K V : Type 0) → MakingsBeginKept K V
makings_begin_kept K V name m known s kept i b none = record {
  entries = entries_stay s t kept.entries refl refl;
  made = stays_made K V name m m known s t kept.made refl refl;
  tables = makings_begin_tables K V name m known s kept.tables i b none;
  looking = kept.looking;
  short = kept.short;
  grown = kept.grown;
  counts = stays_counts K V name m m s t kept.counts refl refl;
  owed = stays_owed K V name m m known known s t kept.owed refl refl (same_in_hand name m known s kept.owed);
  handing = kept.handing;
  waiting = kept.waiting;
  once = kept.once;
  lying = kept.lying;
  order = kept.order;
  retired = others_leave_retired K V m m known s t kept.retired refl refl (λ j has. inl has);
  left = others_keep_left K V known s t kept.left refl refl;
  handed = others_leave_handed K V m m known s t kept.handed refl refl refl refl (λ j has. inl has);
  ends = kept.ends;
}
  where
    t : Scene K V
    t = record s { makers = with_at s.makers i (Some b) }
