-- Before all events all is carried that events need, whatever was chosen of numbers of blocks.
use Rattle.std.specs.Prelude.{[]}
use Rattle.std.proofs.Common.{refl, inl}
use Rattle.run_grows.proofs.Given.MomentsNewMaps.{pairs_begin}
use Rattle.run_grows.proofs.Given.MomentsNumbers.{numbers_begin}
use Rattle.run_grows.proofs.Given.ChangesLogs.{first_is_past}
use Rattle.run_grows.proofs.Given.HistoriesQuestions.{questions_begin}
use Rattle.run_grows.proofs.Given.PromisesGuards.{no_guard}
use Rattle.run_grows.specs.Given.ModelsNumbers.{HasNumber}
use Rattle.run_grows.proofs.Given.ModelsAlike.Changed.{start_alike}
use Rattle.run_grows.proofs.Given.FindsRuns.{all_in_order_at_first}
use Rattle.run_sweeps.proofs.Purposes.Tableless.{tableless_at_first}
use Rattle.run_legal.specs.Carried.{RunsBeginIn}
use Rattle.run_sweeps.proofs.Purposes.Stored.{first_lasts}

pub runs_begin_in : (K V : Type 0) → RunsBeginIn K V
runs_begin_in K V same terms name known w whole kept came = record {
  calls = record {
    whole = whole;
    numbers = (numbers_begin K V, pairs_begin K V);
    kept = kept;
    finding = record {
      growing = λ n i u is. absurd (cc is);
      further = λ n i u is. absurd (cc is);
      capacities = λ n st is. absurd (cc is);
      waits = λ n i u is word some c found k owed. absurd (cc is);
      puts = λ n i u is word place due. absurd (cc is);
    };
    sources = record { shown = whole.all.shown; numbered = λ n st is. absurd (cc is); came = λ n st is chunks. absurd (cc is); left = λ n st is. absurd (cc is) };
    nexts = λ n i u is c found. absurd (cc is);
    limits = λ n i u is c found. absurd (cc is);
    tries = λ n i u is c found. absurd (cc is);
    counters = record {
      shards = λ n st is shard few. absurd (cc is);
      makes = λ i b is. absurd (cc is);
      adds = λ n i u is removed to_add c found. absurd (cc is);
    };
    uncounted = λ of low shard. refl;
    dues = record {
      history = record {
        past = first_is_past;
        shown = whole.all.shown;
        asked = whole.all.asked;
        begun = λ n i u is c found. absurd (cc is);
        within = λ n i u is st there c found began began_is. absurd (cc is);
      };
      owes = λ map i u is st there c found one one_is. absurd (cc is);
      taken = λ map i u is c found one one_is. absurd (cc is);
    };
    as_called = record { shown = whole.all.shown; each = λ map i u is st there c found. absurd (cc is) };
    questions = questions_begin K V;
    purposes = record {
      past = first_is_past;
      lasts = first_lasts K V;
      shown = whole.all.shown;
      begun = λ n i u is c found. absurd (cc is);
      is_for = λ n i u is c found. absurd (cc is);
      come = λ n i u is st there c found. absurd (cc is);
    };
  };
  reading = record { past = first_is_past; begun = λ map i u is c found looks_for. absurd (cc is); reads = λ map i u is c found looks_for st there. absurd (cc is) };
  sections = (λ own g is. no_guard g is, tt);
  follows = λ alone. inl (record { before = []; came = came; alike = start_alike (HasNumber known []) });
  order = (all_in_order_at_first K V, tt);
  tableless = tableless_at_first K V;
  over = λ closed. absurd (cc closed);
  left = λ n. refl;
}
