-- What the first rows of a table say, read from the table or from a slice of it.
use Rattle.std.proofs.Common.{◌≡◌, ℕ, ◌<◌, ◌≤◌, List, length, take, ℤ, Some, None, Option, sym, ap, ◌∙◌, subst}
use Rattle.std.proofs.lemmas.List.{get_or-take, length-take-le}
use Rattle.order.specs.declared.records.Candidate.{Candidate}
use Rattle.policy.specs.declared.front.Front.{Front}
use Rattle.table.specs.Boxes.{FirstOfRank}
use Rattle.table.specs.Entries.{shown_by}
use Rattle.table.specs.Fronts.{FrontOf, ReadingsOf}
use Rattle.table.specs.Rows.{no_row, row_at}
use Rattle.table.specs.declared.rows.Row.{Row}
use Rattle.search.proofs.Firsts.{first_of_rank_same}

-- the rows from 0 up to boxes
abbrev pub rows : ℕ → List Row → List Row
rows boxes table = take boxes table

pub rows_length : (boxes : ℕ) (table : List Row) → boxes ≤ length table → length (rows boxes table) ≡ boxes
rows_length boxes table h = length-take-le boxes table h

pub rows_at : (boxes : ℕ) (table : List Row) (j : ℕ) → j < boxes → row_at (rows boxes table) j ≡ row_at table j
rows_at boxes table j h = get_or-take boxes table j no_row h

-- two tables with the same rows below boxes have the same front
module _ (n finest boxes : ℕ) (old new : List Row) (same : (j : ℕ) → j < boxes → row_at new j ≡ row_at old j) where
  shows : (j : ℕ) → j < boxes → shown_by (row_at old j).entry ≡ shown_by (row_at new j).entry
  shows j h = ap (λ (row : Row). shown_by row.entry) (sym (same j h))

  readings_same : (o : Option (ℤ × ℤ)) → ReadingsOf boxes old o → ReadingsOf boxes new o
  readings_same None f = λ j x r. f j x (r.0, shows j r.0 ∙ r.1)
  readings_same (Some ends) f = (
    (f.0.0, (f.0.1.0, sym (shows f.0.0 f.0.1.0) ∙ f.0.1.1)),
    (f.1.0, (f.1.1.0, sym (shows f.1.0 f.1.1.0) ∙ f.1.1.1)),
    λ j x r. f.2 j x (r.0, shows j r.0 ∙ r.1),
  )

  front_same_boxes : (front : Front) → FrontOf n finest boxes old front → FrontOf n finest boxes new front
  front_same_boxes front f = record {
    directions = f.directions;
    readings = readings_same front.readings f.readings;
    entries = λ r h. let e = f.entries r h in (e.0, first_of_rank_same n finest boxes old new same r e.0 e.1, e.2);
  }

-- the first box of a rank, and the front, of a slice and of its table
module _ (n finest boxes : ℕ) (table : List Row) (long : boxes ≤ length table) where
  pub first_in_table : (r : ℕ) (o : Option Candidate) → FirstOfRank n finest (length (rows boxes table)) (rows boxes table) r o → FirstOfRank n finest boxes table r o
  first_in_table r o f =
      first_of_rank_same n finest boxes (rows boxes table) table (λ j h. sym (rows_at boxes table j h)) r o
      (subst (λ (k : ℕ). FirstOfRank n finest k (rows boxes table) r o) (rows_length boxes table long) f)

  pub front_in_table : (front : Front) → FrontOf n finest (length (rows boxes table)) (rows boxes table) front → FrontOf n finest boxes table front
  front_in_table front f =
      front_same_boxes n finest boxes (rows boxes table) table (λ j h. sym (rows_at boxes table j h)) front
      (subst (λ (k : ℕ). FrontOf n finest k (rows boxes table) front) (rows_length boxes table long) f)
