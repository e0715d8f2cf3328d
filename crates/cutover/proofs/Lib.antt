mod Firsts
mod OneAnswer
mod OneJudgement
