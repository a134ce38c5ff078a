use Rattle.std.proofs.Common.{◌≡◌, ◌+◌, ◌*◌, ◌-◌, ℕ, length, drop, refl, ap, ◌∙◌, arith}
use Rattle.spirv_model.specs.Meaning.ModuleMeaning.{runs, begun}
use Rattle.spirv_run.specs.Held.{memory_of}
use Rattle.spirv_run.specs.Decoding.{ops_of}
use Rattle.spirv_run.proofs.Stepping.{whole_meaning, begun_well}
use Rattle.spirv_run.proofs.run.invoke.Goals as goal

pub rounds-init : goal.rounds-init
rounds-init c =
    let w = c.args.table.now in
    let s = c.args.slots.now.words in
    let ids = c.args.thread.now in
    let start = c.begin-start.result in
    let begun_is = begun_well w c.args.frame.now c.begin-start.new.self start c.requires.room c.begin-start.ensures.start c.begin-start.ensures.begun in
    let near = begun_is.near in
    let within = begun_is.within in
    record {
      outcome =
          let all : 8192 * length w ≡ start + (8192 * length w - start) = omega arith in
          let rest : 8192 * length w - start ≡ 8192 * (length w - 0) - (8192 - (8192 - start)) = omega arith in
          ap (λ k. runs ids (ops_of w) k (ops_of w) (begun s)) all
          ∙ begun_is.leave ids s (8192 * length w - start)
          ∙ ap (λ k. runs ids (ops_of w) k (drop start (ops_of w)) (memory_of c.begin-start.new.self s)) rest;
      near = omega arith;
      around = refl;
      room = begun_is.room;
    }

pub rounds-preserved : goal.rounds-preserved
rounds-preserved c =
    let w = c.args.table.now in
    let ids = c.args.thread.now in
    let n : ℕ = 8192 * (length w - (c.rounds._i + 1)) in
    let near = c.rounds.invariant.near in
    let more : 8192 * (length w - c.rounds._i) - (8192 - c.rounds.most) ≡ c.rounds.most + 8192 * (length w - (c.rounds._i + 1)) = omega arith in
    let whole : 8192 * (length w - (c.rounds._i + 1)) ≡ 8192 * (length w - (c.rounds._i + 1)) - (8192 - 8192) = omega arith in
    record {
      outcome =
          c.rounds.invariant.outcome
          ∙ ap (λ k. runs ids (ops_of w) k (drop c.rounds.place (ops_of w)) (memory_of c.rounds.frame c.rounds.slots.words)) more
          ∙ c.in-On.ensures.outcome n
          ∙ ap (λ k. runs ids (ops_of w) k (drop c.in-On.next (ops_of w)) (memory_of c.run_round.new.frame c.run_round.new.slots.words)) whole;
      near = omega arith;
      around = c.in-On.ensures.around ∙ c.rounds.invariant.around;
      room = c.in-On.ensures.room;
    }

pub returns-in-Done-clause-words : goal.returns-in-Done-clause-words
returns-in-Done-clause-words c =
    let w = c.args.table.now in
    let n : ℕ = 8192 * (length w - (c.rounds._i + 1)) in
    let near = c.rounds.invariant.near in
    let more : 8192 * (length w - c.rounds._i) - (8192 - c.rounds.most) ≡ c.rounds.most + 8192 * (length w - (c.rounds._i + 1)) = omega arith in
    whole_meaning w c.args.thread.now c.args.slots.now.words c.requires.whole
    ∙ c.rounds.invariant.outcome
    ∙ ap (λ k. runs c.args.thread.now (ops_of w) k (drop c.rounds.place (ops_of w)) (memory_of c.rounds.frame c.rounds.slots.words)) more
    ∙ c.in-Done.ensures.outcome n

pub returns-in-Stuck-clause-words : goal.returns-in-Stuck-clause-words
returns-in-Stuck-clause-words c =
    let w = c.args.table.now in
    let n : ℕ = 8192 * (length w - (c.rounds._i + 1)) in
    let near = c.rounds.invariant.near in
    let more : 8192 * (length w - c.rounds._i) - (8192 - c.rounds.most) ≡ c.rounds.most + 8192 * (length w - (c.rounds._i + 1)) = omega arith in
    whole_meaning w c.args.thread.now c.args.slots.now.words c.requires.whole
    ∙ c.rounds.invariant.outcome
    ∙ ap (λ k. runs c.args.thread.now (ops_of w) k (drop c.rounds.place (ops_of w)) (memory_of c.rounds.frame c.rounds.slots.words)) more
    ∙ c.in-Stuck.ensures.outcome n

pub returns-clause-words : goal.returns-clause-words
returns-clause-words c =
    let w = c.args.table.now in
    let near = c.rounds.invariant.near in
    let none : 8192 * (length w - c.rounds._i) - (8192 - c.rounds.most) ≡ 0 = omega arith in
    whole_meaning w c.args.thread.now c.args.slots.now.words c.requires.whole
    ∙ c.rounds.invariant.outcome
    ∙ ap (λ k. runs c.args.thread.now (ops_of w) k (drop c.rounds.place (ops_of w)) (memory_of c.rounds.frame c.rounds.slots.words)) none
