-- A run as a record tells it is one of a search as begin gives it.
use Rattle.std.proofs.Common.{◌≡◌, ℕ, zero, suc, ◌+◌, List, [], ◌∷◌, ◌++◌, map, length, set, replicate, Some, None, Ok, Err, Option, Result, sym, refl, ap, ◌∙◌, subst₂, append_assoc, append-nil, arith, length-append}
use lib.ListN.{length-map}
use lib.Seq.{map-set}
use Rattle.std.proofs.lemmas.List.{map-append, set_at}
use Rattle.order.specs.declared.answer.Answer.{Answer}
use Rattle.table.specs.declared.rows.Row.{Row}
use Rattle.search.specs.Calls.{Answers, Begins, Opens}
use Rattle.search.specs.Replays.{KeepsLaw, Replays}
use Rattle.search.specs.Runs.{Book, Holds, Noted, Run, State, answered, answered_book, answers_in, at_rest, closed, closed_book, in_round, opened, opened_book, start}
use Rattle.search.specs.Tales.{AnsweredInOrder, CapMakes, Leads, Tale, Told, answers_of, finest_of, meaning_of, middle_of, n_of, under}
use Rattle.search.specs.Tales.AnsweredInOrder.{more, none}
use Rattle.search.specs.Tales.Tale.{◌then◌}
use Rattle.search.specs.declared.replay.refused_at.RefusedAt.{RefusedAt}
use Rattle.search.specs.declared.states.Rest.{Rest}
use Rattle.search.specs.declared.states.Round.{Round}
use Rattle.search.proofs.Cells.{located_cells}
use Rattle.search.proofs.Law.{every_run}
use Rattle.search.proofs.Named.{named_lawful}
use Rattle.search.proofs.Outcomes.{answered_by, begun_by}

-- calls on a search that begin gave lead to a state and a table, and the book has these answers
record Reached (table : List Row) (tale : Tale) (state : State) (after : List Row) (answers : List (Option Answer)) : Type 0 where
  begun : Rest
  written : List Row
  book : Book
  begins : Begins (n_of tale) (finest_of tale) table (middle_of tale) (Ok begun) written
  run : Run begun written (middle_of tale) state after book
  noted_are : answers_in book ≡ answers

-- what the law says of it
holds_of : {table : List Row} {tale : Tale} {state : State} {after : List Row} {answers : List (Option Answer)} (h : Reached table tale state after answers)
    → Holds (n_of tale) (finest_of tale) state after h.book
holds_of {table} {tale} {state} {after} h =
    let begun = (begun_by (n_of tale) (finest_of tale) table (middle_of tale) h.begun h.written h.begins).begun in
    subst₂ (λ (n finest : ℕ). Holds n finest state after h.book) begun.is_n begun.is_finest
    (every_run (n_of tale) (finest_of tale) table h.written (middle_of tale) h.begun h.begins state after h.book h.run)

none_noted : (cells : List (List ℕ)) → map (λ (x : Noted). x.answer) (map (λ c. record { cell = c; answer = None }) cells) ≡ replicate (length cells) None
none_noted [] = refl
none_noted (c ∷ cells) = ap (λ (l : List (Option Answer)). None ∷ l) (none_noted cells)

-- the book when the first points of a round are answered: what it had, these answers, and as many empty places as points wait
record InRound (table : List Row) (tale : Tale) (round : Round) (after : List Row) (old : List (Option Answer)) (answers : List Answer) : Type 0 where
  left : ℕ
  all : length answers + left ≡ round.points
  reached : Reached table tale (in_round round) after (old ++ map Some answers ++ replicate left None)
  place : length old ≡ 1 + reached.book.points

-- one more answer goes to the first empty place
answer_reached : {table before after : List Row} {tale : Tale} {round : Round} {old : List (Option Answer)} (answers : List Answer) (a : Answer) → InRound table tale round before old answers
    → Answers round before (length answers) a (Ok tt) after → InRound table tale round after old (answers ++ a ∷ [])
answer_reached {table} {before} {after} {tale} {round} {old} answers a h o = go h.left h.all h.reached h.place
  where
    go : (left : ℕ) → length answers + left ≡ round.points → (r : Reached table tale (in_round round) before (old ++ map Some answers ++ replicate left None))
        → length old ≡ 1 + r.book.points → InRound table tale round after old (answers ++ a ∷ [])
    go zero e r p = absurd (omega (arith, (answered_by round before (length answers) a after o).point))
    go (suc left) e r p =
        let at : length (old ++ map Some answers) ≡ 1 + r.book.points + length answers = omega (arith, length-append old (map Some answers), length-map answers (λ (x : Answer). Some x)) in
        record {
          left = left;
          all = omega (arith, length-append answers (a ∷ []));
          reached = record {
            begun = r.begun;
            written = r.written;
            book = answered_book r.book (length answers) a;
            begins = r.begins;
            run = answered r.run (length answers) a after o;
            noted_are = map-set (λ (x : Noted). x.answer) r.book.cells (1 + r.book.points + length answers) _
                ∙ ap (λ (l : List (Option Answer)). set l (1 + r.book.points + length answers) (Some a)) r.noted_are
                ∙ set_at (old ++ map Some answers) None (replicate left None) (Some a) (1 + r.book.points + length answers) at
                ∙ sym (append_assoc (old ++ map Some answers) (Some a ∷ []) (replicate left None))
                ∙ ap (λ (l : List (Option Answer)). l ++ replicate left None) (append_assoc old (map Some answers) (Some a ∷ []) ∙ ap (λ (l : List (Option Answer)). old ++ l) (sym (map-append Some answers (a ∷ []))));
          };
          place = p;
        }

answers_reached : {table cleared : List Row} {tale : Tale} {round : Round} {old : List (Option Answer)} {answers : List Answer} {filled : List Row}
    → InRound table tale round cleared old [] → AnsweredInOrder round cleared answers filled → InRound table tale round filled old answers
answers_reached h none = h
answers_reached h (more answers a k o) = answer_reached answers a (answers_reached h k) o

-- a round that is opened has answers for none of its points
open_reached : {table between cleared : List Row} {rest : Rest} {old : List (Option Answer)} (tale : Tale) (told : Told) (round : Round) → CapMakes told.cap
    → Reached table tale (at_rest rest) between old → Opens (under told.cap (meaning_of told.by)) rest between (Ok round) cleared
    → InRound table tale round cleared old []
open_reached {between = t} {cleared = u} {rest = rest} {old = old} tale told round c h o =
    let meaning = under told.cap (meaning_of told.by) in
    let lawful = named_lawful told.cap told.by rest t c in
    let found = (located_cells meaning rest t u (Ok round) lawful o).1 in
    let cells = found.0 in
    let holds = holds_of h in
    record {
      left = round.points;
      all = omega arith;
      reached = record {
        begun = h.begun;
        written = h.written;
        book = opened_book h.book cells;
        begins = h.begins;
        run = opened h.run meaning lawful round u o cells found.1;
        noted_are = map-append (λ (x : Noted). x.answer) h.book.cells (map (λ c. record { cell = c; answer = None }) cells)
            ∙ (λ i. (h.noted_are ∙ sym (append-nil old)) i ++ (none_noted cells ∙ ap (λ (k : ℕ). let l : List (Option Answer) = replicate k None in l) found.1.count) i);
      };
      place = omega (arith, ap length h.noted_are, length-map h.book.cells (λ (x : Noted). x.answer), holds.counted, holds.noted_all);
    }

-- a round of which all points are answered has no empty place
all_reached : {table filled : List Row} {tale : Tale} {round : Round} {old : List (Option Answer)} {answers : List Answer} (h : InRound table tale round filled old answers)
    → length answers ≡ round.points → answers_in h.reached.book ≡ old ++ map Some answers
all_reached {old = old} {answers = answers} h e =
    let none_left : h.left ≡ 0 = omega (arith, h.all) in
    h.reached.noted_are ∙ ap (λ (k : ℕ). old ++ map Some answers ++ replicate k None) none_left ∙ append-nil (old ++ map Some answers)

tale_reached : {table : List Row} (tale : Tale) {rest : Rest} {after : List Row} → Leads table tale rest after → Reached table tale (at_rest rest) after (map Some (answers_of tale))
tale_reached (Tale.begun n finest a) {rest} {after} b = record { begun = rest; written = after; book = _; begins = b; run = start; noted_are = refl }
tale_reached (tale then told) {rest} {after} (last, between, h, k) =
    let filled = answers_reached (open_reached tale told k.round k.plays.caps (tale_reached tale h) k.plays.opens) k.plays.answered in
    let r = filled.reached in
    record {
      begun = r.begun;
      written = r.written;
      book = closed_book r.book k.round.points;
      begins = r.begins;
      run = closed r.run rest after k.closes;
      noted_are = all_reached filled k.all ∙ sym (map-append Some (answers_of tale) told.answers);
    }

pub keeps_law : (table : List Row) (bytes : List ℕ) (out : Result Rest RefusedAt) (after : List Row) → Replays table bytes out after → KeepsLaw table bytes out after
keeps_law table bytes (Ok rest) after (tale, same, h) =
    let r = tale_reached tale h in
    (tale, same, record { begun = r.begun; written = r.written; book = r.book; begins = r.begins; run = r.run; answers = r.noted_are; holds = holds_of r })
keeps_law table bytes (Err e) after x = tt
