-- A first round as a run: what is known of it while its points are answered, and after it is closed.
use Rattle.std.proofs.Common.{◌≡◌, ℕ, ◌+◌, List, Ok, refl, ap, subst}
use Rattle.order.specs.declared.answer.Answer.{Answer}
use Rattle.policy.specs.declared.front.Front.{Front}
use Rattle.ranks.specs.Ranks.{Ranks}
use Rattle.table.specs.declared.rows.Row.{Row}
use Rattle.search.specs.Calls.{Answers, Begins, Closes, Opens}
use Rattle.search.specs.Runs.{Book, EveryRun, FirstRound, Holds, LawfulAt, LocatedCells, Run, answered, at_rest, closed, closed_book, in_round, opened, start}
use Rattle.search.specs.declared.states.Rest.{Rest}
use Rattle.search.specs.declared.states.Round.{Round}
use Rattle.search.proofs.Outcomes.{begun_by}

-- a round, with its table, of a search that begin gave and of which no round is closed
pub record Going (n finest : ℕ) (round : Round) (table : List Row) : Type 0 where
  pub begun : Rest
  pub written : List Row
  pub middle : Answer
  pub law : EveryRun begun written middle
  pub is_n : begun.shape.n ≡ n
  pub is_finest : begun.shape.finest ≡ finest
  pub book : Book
  pub run : Run begun written middle (in_round round) table book
  pub none_closed : book.rounds ≡ 0

pub goes : (n finest : ℕ) (table written after : List Row) (a : Answer) (rest : Rest) (round : Round) (meaning : Front → Ranks)
    → Begins n finest table a (Ok rest) written → EveryRun rest written a → LawfulAt meaning rest written → Opens meaning rest written (Ok round) after
    → LocatedCells (Ok round) after → Going n finest round after
goes n finest table written after a rest round meaning b law lawful o located =
    let begun = begun_by n finest table a rest written b in
    record {
      begun = rest;
      written = written;
      middle = a;
      law = law;
      is_n = begun.begun.is_n;
      is_finest = begun.begun.is_finest;
      book = _;
      run = opened start meaning lawful round after o located.1.0 located.1.1;
      none_closed = refl;
    }

pub goes_on : (n finest : ℕ) (round : Round) (table after : List Row) (p : ℕ) (a : Answer) → Going n finest round table → Answers round table p a (Ok tt) after → Going n finest round after
goes_on n finest round table after p a g o = record {
  begun = g.begun;
  written = g.written;
  middle = g.middle;
  law = g.law;
  is_n = g.is_n;
  is_finest = g.is_finest;
  book = _;
  run = answered g.run p a after o;
  none_closed = g.none_closed;
}

pub ends : (n finest : ℕ) (round : Round) (table after : List Row) (rest : Rest) → Going n finest round table → Closes round table (Ok rest) after → FirstRound n finest (Ok rest) after
ends n finest round table after rest g o =
    let book : Book = closed_book g.book round.points in
    let holds = g.law _ _ _ (closed g.run rest after o) in (
      book,
      subst (λ (k : ℕ). Holds k finest (at_rest rest) after book) g.is_n (subst (λ (k : ℕ). Holds g.begun.shape.n k (at_rest rest) after book) g.is_finest holds),
      ap (λ (k : ℕ). k + 1) g.none_closed,
    )
