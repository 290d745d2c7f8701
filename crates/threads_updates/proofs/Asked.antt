-- A call that computes may begin, and be told what is said wherever it asks.
use Rattle.std.specs.Prelude.{Option, Some, None}
use Rattle.std.proofs.Common.{◌≡◌, ℕ, Bool, true, false, refl, sym, subst}
use Rattle.seize_words.specs.declared.operation.Operation.{Operation}
use Rattle.seize_words.specs.declared.operation.Operation.TheVariants as operation
use Rattle.map_tables.specs.declared.node.Node.{Node}
use Rattle.map_tables.specs.declared.node.Node.TheVariants.{Pair}
use Rattle.map_tables.specs.declared.setting.Setting.{Setting}
use Rattle.papaya_raw.specs.CallAsks.{computing}
use Rattle.papaya_raw.specs.declared.machines.asking.MachineReply.TheVariants as reply
use Rattle.papaya_raw.specs.declared.machines.call.KeyCall.{KeyCall}
use Rattle.papaya_raw.specs.declared.machines.machine.Machine.{Machine}
use Rattle.papaya_raw.specs.declared.machines.machine.Machine.TheVariants as kinds
use Rattle.threads_calls.specs.Given.SeizeViewsDeclared.view.Has.TheVariants.{Nothing as NoBlock}
use Rattle.threads_calls.specs.Given.SeizeViewsDeclared.view.SlotView.TheVariants.{Inside}
use Rattle.threads_calls.specs.Given.CallersStanding.{known_by}
use Rattle.threads_calls.proofs.Sessions.{may_do}
use Rattle.threads_calls.specs.Given.StepsAsking.{AsksWith, WasReplied}
use Rattle.threads_calls.proofs.Given.Told.{asks_none, asks_pair}
use Rattle.threads_calls.specs.Given.CallKindsKinds.{Continues, PairIsVisible, Stage, stage_after}
use Rattle.threads_calls.specs.Given.ErrandsCalling.{IsAsking, IsUnderWay, MayDoAs, wanted_of}
use Rattle.threads_calls.specs.Given.ActsActs.{Compute}
use Rattle.threads_calls.specs.Given.ViewsBegun.{replied}
use Rattle.threads_calls.specs.Given.ViewsLooks.{shown_in}
use Rattle.threads_calls.specs.Given.ViewsDeclared.view.View.{View}
use Rattle.threads_calls.specs.Given.ViewsDeclared.view.SeatWork.TheVariants.{Nothing}
use Rattle.threads_updates.specs.Computing.{IsAbout, Once, ShowsAsked, StandsAt, Told, computes}
use Rattle.threads_updates.specs.Deciding.{reply_of}
use Rattle.threads_updates.specs.declared.computing.ComputedOnce.{ComputedOnce}

-- it was told no value yet
abbrev pub first : Stage
first = record { told = false; gap = false }

module _ (V : Type 0) (s : Stage) where
  -- a removal, and that nothing is to change, leave a call as far as it has come
  pub stage_removed : (pair : Option ℕ) → stage_after {V = V} s pair reply.Remove ≡ s
  stage_removed None = refl
  stage_removed (Some word) = refl

  pub stage_left : (pair : Option ℕ) → stage_after {V = V} s pair reply.Abort ≡ s
  stage_left None = refl
  stage_left (Some word) = refl

module _ {K V S : Type 0} (hasher : S) (machine : Machine K V K) (v : View K V S) where
  -- who was told a value stands as one that was told one
  pub stands_told : (s : Stage) → IsUnderWay computes s hasher machine v → StandsAt true hasher machine v
  stands_told s under = (s, λ none. absurd (cc none), under)

  -- and who was told none as one that may be told one
  pub stands_still : (s t : Stage) → t ≡ s → s.told ≡ false → IsUnderWay computes t hasher machine v → StandsAt false hasher machine v
  stands_still s t is none under = (s, λ told. none, subst (λ (x : Stage). IsUnderWay computes x hasher machine v) is under)

module _ {K V S : Type 0} (s : Stage) (hasher : S) (v : View K V S) where
  -- the pair with which it asks is shown
  pub shows_asked : (pair : Option ℕ) (machine : Machine K V K) → IsAsking computes s hasher pair machine v → ShowsAsked (shown_in v.held) pair
  shows_asked None machine is = tt
  shows_asked (Some word) (kinds.Key c) is = is.asks.1.shows
  shows_asked (Some word) (kinds.Reserve r) is = absurd is.asks
  shows_asked (Some word) (kinds.Sweep r) is = absurd is.asks
  shows_asked (Some word) (kinds.Count r) is = absurd is.asks

  asks_with : (pair : Option ℕ) (about : Option (K × V)) (machine : Machine K V K) → IsAsking computes s hasher pair machine v → IsAbout (shown_in v.held) pair about
      → AsksWith (shown_in v.held) about machine
  asks_with None None machine is its = asks_none computes s hasher v machine is
  asks_with None (Some x) machine is its = absurd its
  asks_with (Some word) None machine is its = absurd its
  asks_with (Some word) (Some (key, value)) machine is its = asks_pair computes s hasher v word machine is key value its

  -- it was told what is said of that,
  module _ {T : Type 0} (Gives : Option (K × V) → Operation V T → Type 0) where
    told_so : (about : Option (K × V)) (said : Operation V T) → Gives about said → Told Gives about (reply_of said)
    told_so about (operation.Insert value) gives = gives
    told_so about operation.Remove gives = gives
    told_so about (operation.Abort end) gives = tt

    pub was_told : (pair : Option ℕ) (about : Option (K × V)) (machine : Machine K V K) → IsAsking computes s hasher pair machine v → IsAbout (shown_in v.held) pair about
        → (said : Operation V T) → Gives about said → (w : View K V S) → w ≡ replied v machine (reply_of said) → WasReplied (Told Gives) v w
    was_told pair about machine is its said gives w e = (machine, about, reply_of said, is.at.works, asks_with pair about machine is its, told_so about said gives, e)

    -- or to leave it
    about_it : (pair : Option ℕ) → ShowsAsked (shown_in v.held) pair → (about : Option (K × V)) × IsAbout (shown_in v.held) pair about
    about_it None shows = (None, tt)
    about_it (Some word) shows = (Some (shows.0, shows.1), shows.2)

    pub was_left : (pair : Option ℕ) (machine : Machine K V K) → IsAsking computes s hasher pair machine v → (w : View K V S) → w ≡ replied v machine reply.Abort → WasReplied (Told Gives) v w
    was_left pair machine is w e =
        let about = about_it pair (shows_asked pair machine is) in
        (machine, about.0, reply.Abort, is.at.works, asks_with pair about.0 machine is about.1, tt, e)

-- of the pair with which it asks, if it asks with one
pub shown_word : {K V : Type 0} (shown : ℕ → Option (Node K V)) (word : ℕ) (pair : Option ℕ) → pair ≡ Some word → ShowsAsked shown pair → PairIsVisible shown word
shown_word shown word pair is shows = subst (λ (o : Option ℕ). ShowsAsked shown o) is shows

-- A session may begin a call that computes,
module _ {K V S : Type 0} (same : K → K → Bool) (hash : S → K → ℕ) (v : View K V S) (setting its : Setting) (hasher : S) (key : K) (hashed t : ℕ) (call : KeyCall K V K) (lone : v.under ≡ None) (inside : v.slot ≡ Inside t NoBlock) (free : v.work ≡ Nothing) (knows : known_by v ≡ Some (setting, hasher)) (is : its ≡ record setting { slot = t }) (word : hashed ≡ hash hasher key) where
  pub may_compute : call ≡ computing its hashed key → MayDoAs same hash computes first hasher (kinds.Key call) v
  may_compute made =
      record {
        may = may_do same hash (Compute key) key (λ x h. computing x h key) (λ map s. refl) (λ x h. refl) v setting its hasher hashed t call lone inside free knows is word made;
        goes = subst (λ (c : KeyCall K V K). Continues computes first c) (sym made) record { so = record { kind = refl; holds = ((key, refl, refl), tt, tt); gap = tt }; here = tt };
      }

-- what is there is the pair that was read
pub pair_is : {K V : Type 0} (shown : ℕ → Option (Node K V)) (block : ℕ) (key read_key : K) (value read_value : V) → read_key ≡ key → read_value ≡ value → shown block ≡ Some (Pair key value)
    → shown block ≡ Some (Pair read_key read_value)
pair_is shown block key read_key value read_value is_key is_value is = cc (is_key, is_value, is)

-- and what that has come to is said of who wanted it
pub once_by : {K V S T : Type 0} (same : K → K → Bool) (hash : S → K → ℕ) (Gives : Option (K × V) → Operation V T → Type 0) {call made : KeyCall K V K} (v w : View K V S) → call ≡ made → (once : ComputedOnce T)
    → Once same hash Gives (wanted_of (kinds.Key call)) once v w → Once same hash Gives (wanted_of (kinds.Key made)) once v w
once_by {K} {V} same hash Gives v w is once came = subst (λ (c : KeyCall K V K). Once same hash Gives (wanted_of (kinds.Key c)) once v w) is came
