-- The keys by which boxes, directions and ranks go, and their orders.
use Rattle.std.specs.Prelude.{Bool}
use Rattle.order.specs.Answers.{Numbered, numbered_before}
use Rattle.order.specs.declared.records.Candidate.{Candidate}
use Rattle.order.specs.declared.records.Direction.{Direction}
use Rattle.order.specs.declared.records.RankEntry.{RankEntry}

abbrev pub candidate_key : Candidate → Numbered
candidate_key c = record { answer = c.answer; number = c.row }

abbrev pub direction_key : Direction → Numbered
direction_key d = record { answer = d.w; number = d.number }

abbrev pub rank_key : RankEntry → Numbered
rank_key e = record { answer = e.answer; number = e.rank }

abbrev pub candidate_before : Candidate → Candidate → Bool
candidate_before a b = numbered_before (candidate_key a) (candidate_key b)

abbrev pub direction_before : Direction → Direction → Bool
direction_before a b = numbered_before (direction_key a) (direction_key b)

abbrev pub rank_before : RankEntry → RankEntry → Bool
rank_before a b = numbered_before (rank_key a) (rank_key b)
