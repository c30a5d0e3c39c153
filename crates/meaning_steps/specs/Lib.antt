pub mod Entering
pub mod Handling
pub mod Runnable
pub mod RunnableFacts
pub mod RunnableStatements
pub mod Turns
