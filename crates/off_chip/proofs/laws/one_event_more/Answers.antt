use Rattle.std.proofs.Common.{refl}
use Rattle.std.specs.Prelude.{cond}
use Rattle.std.proofs.lemmas.List.Sums.{sum_by_push}
use Rattle.off_chip.specs.Boundaries.{is_retire, is_suspend}
use Rattle.off_chip.specs.ExchangedWords.{secure_read, secure_write}
use Rattle.off_chip.proofs.HistoryLemmas.{filter_map-push}
use Rattle.off_chip.proofs.WriteLemmas.{StampsFit-write, StampsFit-other}
use Rattle.off_chip.proofs.MoreLemmas.{in_check-more, is_resident-more, AllFaithful-more, open_reads-more, open_writes-more, bytes_sent-more}
use Rattle.off_chip.proofs.laws.one_event_more.Goals as goal

pub returns : goal.returns
returns c = record {
  changes = record {
    retirements = λ trace event. sum_by_push (λ e. cond (is_retire e) 1 0) trace event;
    suspends = λ trace event. sum_by_push (λ e. cond (is_suspend e) 1 0) trace event;
    words_in = filter_map-push secure_read;
    words_out = filter_map-push secure_write;
    bytes = bytes_sent-more;
    write_back = λ place event older. refl;
    stamps_write = StampsFit-write;
    stamps_other = StampsFit-other;
    faithful = AllFaithful-more;
    check = in_check-more;
    resident = is_resident-more;
    expected = λ tree n event older. refl;
    reads = open_reads-more;
    writes = open_writes-more;
  };
}
