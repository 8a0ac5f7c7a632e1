use Rattle.unit_listing.specs.Kit.{kit_of}
use Rattle.link_answer.proofs.CodesLemmas.{CodeLaws}
use Rattle.link_answer.proofs.LinkLemmas.{BuildLaws, FitLaws, not_refused, one_image, one_refusal}
use Rattle.link_answer.proofs.laws.one_link.Goals as goal

pub returns-clause-one : goal.returns-clause-one
returns-clause-one g c = λ build bytes other valid one two.
    let kit = kit_of g.T.Processor.instructions g.T.Processor.fits g.T.Processor.MACHINE g.T.Processor.QUANTUM g.T.Processor.SHAPE g.T.Target.selection
    g.T.Target.aiming g.T.Target.entry g.T.Target.check g.T.Target.begins in
    let code_laws : CodeLaws kit = record {
      code = c.one_code.ensures.code;
      depths = c.one_code.ensures.depths;
      never = c.one_code.ensures.never;
      first = c.one_code.ensures.first;
      line = c.one_code.ensures.line;
      place = c.one_code.ensures.place;
    } in
    let build_laws : BuildLaws kit build = record {
      names = c.one_build.ensures.names build;
      code = λ names others code again. c.one_build.ensures.code build names others code again valid;
      never = λ names code refusal. c.one_build.ensures.never build names code refusal valid;
      first = λ refusal other. c.one_build.ensures.first build refusal other valid;
      sound = λ names code. c.functions_are_sound.ensures build names code valid;
    } in
    let fit_laws : FitLaws kit build = record {
      places = c.one_fit.ensures.places;
      size = c.one_fit.ensures.size;
      table = c.one_fit.ensures.table kit.quantum build;
      symbols = c.one_fit.ensures.symbols kit.quantum build;
      addresses = c.one_fit.ensures.addresses kit.quantum build;
      values = c.one_fit.ensures.values build;
      never = c.one_fit.ensures.never kit.quantum build;
    } in
    one_image kit build code_laws build_laws fit_laws g.T.Processor.GROWTH bytes other one two

pub returns-clause-never : goal.returns-clause-never
returns-clause-never g c = λ build bytes refusal valid one bad.
    let kit = kit_of g.T.Processor.instructions g.T.Processor.fits g.T.Processor.MACHINE g.T.Processor.QUANTUM g.T.Processor.SHAPE g.T.Target.selection
    g.T.Target.aiming g.T.Target.entry g.T.Target.check g.T.Target.begins in
    let code_laws : CodeLaws kit = record {
      code = c.one_code.ensures.code;
      depths = c.one_code.ensures.depths;
      never = c.one_code.ensures.never;
      first = c.one_code.ensures.first;
      line = c.one_code.ensures.line;
      place = c.one_code.ensures.place;
    } in
    let build_laws : BuildLaws kit build = record {
      names = c.one_build.ensures.names build;
      code = λ names others code again. c.one_build.ensures.code build names others code again valid;
      never = λ names code refusal. c.one_build.ensures.never build names code refusal valid;
      first = λ refusal other. c.one_build.ensures.first build refusal other valid;
      sound = λ names code. c.functions_are_sound.ensures build names code valid;
    } in
    let fit_laws : FitLaws kit build = record {
      places = c.one_fit.ensures.places;
      size = c.one_fit.ensures.size;
      table = c.one_fit.ensures.table kit.quantum build;
      symbols = c.one_fit.ensures.symbols kit.quantum build;
      addresses = c.one_fit.ensures.addresses kit.quantum build;
      values = c.one_fit.ensures.values build;
      never = c.one_fit.ensures.never kit.quantum build;
    } in
    not_refused kit build code_laws build_laws fit_laws g.T.Processor.GROWTH bytes refusal one bad

pub returns-clause-first : goal.returns-clause-first
returns-clause-first g c = λ build refusal other valid one two.
    let kit = kit_of g.T.Processor.instructions g.T.Processor.fits g.T.Processor.MACHINE g.T.Processor.QUANTUM g.T.Processor.SHAPE g.T.Target.selection
    g.T.Target.aiming g.T.Target.entry g.T.Target.check g.T.Target.begins in
    let code_laws : CodeLaws kit = record {
      code = c.one_code.ensures.code;
      depths = c.one_code.ensures.depths;
      never = c.one_code.ensures.never;
      first = c.one_code.ensures.first;
      line = c.one_code.ensures.line;
      place = c.one_code.ensures.place;
    } in
    let build_laws : BuildLaws kit build = record {
      names = c.one_build.ensures.names build;
      code = λ names others code again. c.one_build.ensures.code build names others code again valid;
      never = λ names code refusal. c.one_build.ensures.never build names code refusal valid;
      first = λ refusal other. c.one_build.ensures.first build refusal other valid;
      sound = λ names code. c.functions_are_sound.ensures build names code valid;
    } in
    let fit_laws : FitLaws kit build = record {
      places = c.one_fit.ensures.places;
      size = c.one_fit.ensures.size;
      table = c.one_fit.ensures.table kit.quantum build;
      symbols = c.one_fit.ensures.symbols kit.quantum build;
      addresses = c.one_fit.ensures.addresses kit.quantum build;
      values = c.one_fit.ensures.values build;
      never = c.one_fit.ensures.never kit.quantum build;
    } in
    one_refusal kit build code_laws build_laws fit_laws refusal other one two
