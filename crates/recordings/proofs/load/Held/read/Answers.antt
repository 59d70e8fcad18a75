use Rattle.recordings.proofs.load.Held.read.Goals as goal

pub returns : goal.returns
returns g c =
    let remaining = g.R.Read.remaining in
    record {
      ab = c.read_exact.new.buf;
      table = c.in_ok-records.records.items;
      pictures0 = c.in_ok-pictures0.pictures0.items;
      pictures1 = c.in_ok-pictures1.pictures1.items;
      numbers = c.in_ok-numbers.numbers.items;
      after_ab = remaining c.read_exact.new.self;
      after_table = remaining c.records_if.new.file;
      after_list0 = remaining c.pictures_if.new.file;
      after_list1 = remaining c.pictures_if-2.new.file;
      after_qps = remaining c.bytes.new.file;
      after_t8s = remaining c.bytes-2.new.file;
      after_numbers = remaining c.numbers.new.file;
      reads_ab = c.in_ok-read_exact.ensures.bytes;
      reads_table = c.in_ok-records.ensures.read;
      reads_list0 = c.in_ok-pictures0.ensures.read;
      reads_list1 = c.in_ok-pictures1.ensures.read;
      reads_qps = c.in_ok-qps.ensures.read;
      reads_t8s = c.in_ok-t8s.ensures.read;
      reads_numbers = c.in_ok-numbers.ensures.read;
      slicing = c.told-slices.ensures;
    }
